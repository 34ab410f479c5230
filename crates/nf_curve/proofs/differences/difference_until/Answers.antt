use Rattle.std.proofs.Common.{◌≡◌, ◌<◌, length, Some, true, false, sym, ap, subst, ◌∙◌, arith, Ok, Option, option_map}
use Rattle.nf_curve.proofs.Common.{err_from_is_err_and, ◌<ℚ◌, ≤ℚ_of_lt, passes_Q, times_before, difference_from, sides_of, times_after, times_left, Moment}
use Rattle.nf_curve_def.specs.Differences.{checked_difference}
use Rattle.nf_curve.specs.declared.lines.Sides.{Sides}
use Rattle.nf_curve.proofs.Placing.{place-rises, curve-rises}
use Rattle.nf_curve.proofs.Differing.{Kept, kept-before, step_stops, step_ends, step_goes, last_stops, last_found}
use Rattle.nf_curve.proofs.differences.difference_until.Goals as goal
use Rattle.nf_curve.proofs.differences.difference_until.Goals.{then-do_differ, else-do_differ}

pub loop-now-init : goal.loop-now-init
unfolding checked_difference
loop-now-init c =
    let k : Kept c.args.last c.args.left.now c.args.right.now (Some c.first_moment.result) c.only_before-now.result =
    kept-before c.args.last c.args.left.now c.args.right.now (Some c.first_moment.result) c.only_before-now.result c.only_before-now.ensures c.first_moment.ensures.there in
    record {
      kept = c.none-kept.ensures c.args.left.now c.args.right.now;
      there = k.there;
      before = k.before;
      left_place = omega arith;
      right_place = omega arith;
      so_far = ap (difference_from passes_Q c.args.left.now c.args.right.now c.args.last) (k.times ∙ ap (times_before c.args.last) (sym c.first_moment.ensures.times));
    }

pub returns-in_err-sides : goal.returns-in_err-sides
returns-in_err-sides c =
    let p = err_from_is_err_and c.from_residual.result c.from_residual.ensures.1 in
    rw (p.1, p.2) (sym (step_stops passes_Q c.args.left.now c.args.right.now c.args.last c.args.part c.in-Some.moment.time
    (times_after c.in-Some.moment.time c.args.left.now c.args.right.now) _
    (rw c.in-Some.is at c.loop-now.invariant.before) (rw c.in-Some.is at c.loop-now.invariant.so_far) c.in_err-sides.field-0.0 (sym c.in_err-sides.ensures.found)))

pub returns-in-Some-2 : goal.returns-in-Some-2
returns-in-Some-2 c =
    sym (step_ends passes_Q c.args.left.now c.args.right.now c.args.last c.args.part c.in-Some.moment.time
    (times_after c.in-Some.moment.time c.args.left.now c.args.right.now) _
    (rw c.in-Some.is at c.loop-now.invariant.before) (rw c.in-Some.is at c.loop-now.invariant.so_far) (sides_of c.in-Some-2.sides)
    (sym c.in_ok-sides.ensures.found ∙ ap (λ (o : Option Sides). Ok (option_map sides_of o)) c.in-Some-2.is))

pub loop-now-smaller : goal.loop-now-smaller
loop-now-smaller c =
    let k : Kept c.args.last c.args.left.now c.args.right.now c.next_moment.result c.only_before-now-in-Some.result =
    kept-before c.args.last c.args.left.now c.args.right.now c.next_moment.result c.only_before-now-in-Some.result c.only_before-now-in-Some.ensures c.next_moment.ensures.there in
    let f = k.fewer in
    let e : length (times_after c.in-Some.moment.time c.args.left.now c.args.right.now) ≡ length
    (times_left c.args.left.now c.args.right.now c.next_moment.result) = ap length c.next_moment.ensures.times in
    let h : length (times_left c.args.left.now c.args.right.now c.only_before-now-in-Some.result) < length
    (times_left c.args.left.now c.args.right.now (Some c.in-Some.moment)) = omega arith in
    subst (λ (o : Option Moment). length (times_left c.args.left.now c.args.right.now c.only_before-now-in-Some.result) < length
    (times_left c.args.left.now c.args.right.now o)) (sym c.in-Some.is) h

pub loop-now-preserved : goal.loop-now-preserved
loop-now-preserved c =
    let k : Kept c.args.last c.args.left.now c.args.right.now c.next_moment.result c.only_before-now-in-Some.result =
    kept-before c.args.last c.args.left.now c.args.right.now c.next_moment.result c.only_before-now-in-Some.result c.only_before-now-in-Some.ensures c.next_moment.ensures.there in
    let b : c.in-Some.moment.time <ℚ c.args.last = rw c.in-Some.is at c.loop-now.invariant.before in
    let t = rw c.in-Some.is at c.loop-now.invariant.there in
    let l = place-rises c.in-Some.moment.time c.args.last c.args.left.now (≤ℚ_of_lt _ _ b) in
    let r = place-rises c.in-Some.moment.time c.args.last c.args.right.now (≤ℚ_of_lt _ _ b) in
    let i = t.left_place in
    let j = t.right_place in
    record {
      kept = c.in_ok-sides.ensures.kept;
      there = k.there;
      before = k.before;
      left_place = omega arith;
      right_place = omega arith;
      so_far = ap (difference_from passes_Q c.args.left.now c.args.right.now c.args.last) (k.times ∙ ap (times_before c.args.last) (sym c.next_moment.ensures.times))
          ∙ step_goes passes_Q c.args.left.now c.args.right.now c.args.last c.args.part c.in-Some.moment.time (times_after c.in-Some.moment.time c.args.left.now c.args.right.now) _
          b (rw c.in-Some.is at c.loop-now.invariant.so_far) (sym c.in_ok-sides.ensures.found ∙ ap (λ (o : Option Sides). Ok (option_map sides_of o)) c.in_default-2.is);
    }

pub difference_at-requires-clause-left : goal.difference_at-requires-clause-left
difference_at-requires-clause-left c = c.requires.left

pub difference_at-requires-clause-right : goal.difference_at-requires-clause-right
difference_at-requires-clause-right c = c.requires.right

pub difference_at-requires-clause-there : goal.difference_at-requires-clause-there
difference_at-requires-clause-there c = rw c.in-Some.is at c.loop-now.invariant.there

pub next_moment-requires-clause-left : goal.next_moment-requires-clause-left
next_moment-requires-clause-left c = c.requires.left

pub next_moment-requires-clause-right : goal.next_moment-requires-clause-right
next_moment-requires-clause-right c = c.requires.right

pub next_moment-requires-clause-there : goal.next_moment-requires-clause-there
next_moment-requires-clause-there c = rw c.in-Some.is at c.loop-now.invariant.there

pub place_up-requires-clause-rise : goal.place_up-requires-clause-rise
place_up-requires-clause-rise c = curve-rises c.args.left.now c.requires.left

pub place_up-requires-2-clause-rise : goal.place_up-requires-2-clause-rise
place_up-requires-2-clause-rise c = curve-rises c.args.right.now c.requires.right

pub sides_with-requires-clause-left : goal.sides_with-requires-clause-left
sides_with-requires-clause-left c = c.requires.left

pub sides_with-requires-clause-right : goal.sides_with-requires-clause-right
sides_with-requires-clause-right c = c.requires.right

pub sides_with-requires-clause-there : goal.sides_with-requires-clause-there
sides_with-requires-clause-there c = record { time = c.requires.last; left_place = c.place_up.ensures; right_place = c.place_up-2.ensures }

pub returns-in_err-sides-2 : goal.returns-in_err-sides-2
returns-in_err-sides-2 c =
    let p = err_from_is_err_and c.from_residual-in_err-sides-2.result c.from_residual-in_err-sides-2.ensures.1 in
    rw (p.1, p.2) (sym (last_stops passes_Q c.args.left.now c.args.right.now c.args.last c.args.part _
    (rw c.in_default.is at c.loop-now.invariant.so_far) c.in_err-sides-2.field-0.0 (sym c.in_err-sides-2.ensures.list)))

pub returns : goal.returns
returns c = elim c.if-do_differ.branch [
  | then-do_differ w ↦ rw w.result-is (last_found passes_Q c.args.left.now c.args.right.now c.args.last c.args.part _
      (rw c.in_default.is at c.loop-now.invariant.so_far) (sides_of c.in_ok-sides-2.sides) true
      c.in_ok-sides-2.ensures.list (sym c.do_differ.ensures ∙ w.if-do_differ.true))
  | else-do_differ w ↦ rw w.result-is (last_found passes_Q c.args.left.now c.args.right.now c.args.last c.args.part _
      (rw c.in_default.is at c.loop-now.invariant.so_far) (sides_of c.in_ok-sides-2.sides) false
      c.in_ok-sides-2.ensures.list (sym c.do_differ.ensures ∙ w.if-do_differ.false))
]

pub difference_at-requires-clause-kept : goal.difference_at-requires-clause-kept
difference_at-requires-clause-kept c = c.loop-now.invariant.kept

pub sides_with-requires-clause-kept : goal.sides_with-requires-clause-kept
sides_with-requires-clause-kept c = c.loop-now.invariant.kept
