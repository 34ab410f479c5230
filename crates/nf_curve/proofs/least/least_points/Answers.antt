use Rattle.std.proofs.Common.{◌≡◌, List, [], ◌∷◌, ◌++◌, sym, ap, subst, ◌∙◌, IfSome}
use Rattle.nf_curve.proofs.Common.{err_from_is_err_and, ℚ, ◌<ℚ◌, passes_Q, at_part, with_front, both_times, least_point, least_after, least_from, sides_of}
use Rattle.nf_curve.proofs.Common.{times_after, lesser_step}
use Rattle.nf_curve_def.specs.Least.{checked_least}
use Rattle.nf_curve.proofs.Walking.{fewer_left}
use Rattle.nf_curve.proofs.Exits.{front_ends, stops_on}
use Rattle.nf_curve.proofs.Lesser.{first_stops, first_goes, sides_stop, step_stops, step_goes}
use Rattle.nf_curve.proofs.least.least_points.Goals as goal

pub returns-in_err-before : goal.returns-in_err-before
unfolding checked_least
returns-in_err-before c =
    let p = err_from_is_err_and c.from_residual.result c.from_residual.ensures.1 in
    rw (p.1, p.2) (first_stops passes_Q c.args.part c.args.left.now c.args.right.now c.first_moment-first.result.time _ _ c.first_moment-first.ensures.times
    c.in_err-before.field-0.0 (sym c.in_err-before.ensures.list))

pub loop-now-init : goal.loop-now-init
loop-now-init c =
    let one : c.push.new.self.items ≡ least_point (sides_of c.in_ok-before.before) ∷ [] =
    c.in_ok-push.ensures.items ∙ ap (λ (l : List (ℚ × ℚ)). l ++ c.least_point.result ∷ []) c.in_ok-points.ensures.items ∙ ap (λ (p : ℚ × ℚ). p ∷ []) c.least_point.ensures in
    let w : with_front c.push.new.self.items (least_after passes_Q c.args.left.now c.args.right.now (sides_of c.in_ok-before.before)
    (times_after c.first_moment-first.result.time c.args.left.now c.args.right.now))
    ≡ least_from passes_Q c.args.left.now c.args.right.now (both_times c.args.left.now c.args.right.now) =
    ap (λ (l : List (ℚ × ℚ)). with_front l (least_after passes_Q c.args.left.now c.args.right.now (sides_of c.in_ok-before.before)
    (times_after c.first_moment-first.result.time c.args.left.now c.args.right.now)))
    one
    ∙ first_goes passes_Q c.args.part c.args.left.now c.args.right.now c.first_moment-first.result.time _ _ c.first_moment-first.ensures.times
    (sides_of c.in_ok-before.before) (sym c.in_ok-before.ensures.list) in
    record {
      kept = c.in_ok-before.ensures.kept;
      there = c.next_moment-now.ensures.there;
      later = subst (λ (t : ℚ). IfSome c.next_moment-now.result (λ next. t <ℚ next.time)) (sym c.in_ok-before.ensures.time) c.next_moment-now.ensures.later;
      so_far = rw c.next_moment-now.ensures.times at w;
    }

pub returns-in_err-sides : goal.returns-in_err-sides
unfolding checked_least
returns-in_err-sides c =
    let p = err_from_is_err_and c.from_residual-in_err-sides.result c.from_residual-in_err-sides.ensures.1 in
    rw (p.1, p.2) (sides_stop passes_Q c.args.part c.args.left.now c.args.right.now c.loop-now.points.items (sides_of c.loop-now.before) c.in-Some.moment.time _ _
    (rw c.in-Some.is at c.loop-now.invariant.so_far) c.in_err-sides.field-0.0 (sym c.in_err-sides.ensures.list))

pub returns-in_err-add_points : goal.returns-in_err-add_points
unfolding checked_least
returns-in_err-add_points c =
    let p = err_from_is_err_and c.from_residual-in_err-add_points.result c.from_residual-in_err-add_points.ensures.1 in
    rw (p.1, p.2) (stops_on c.in_err-add_points.field-0.0 (at_part c.args.part (lesser_step passes_Q c.loop-now.points.items (sides_of c.loop-now.before) (sides_of c.in_ok-sides.sides)))
    (at_part c.args.part (least_from passes_Q c.args.left.now c.args.right.now (both_times c.args.left.now c.args.right.now)))
    (λ q e. step_stops passes_Q c.args.part c.args.left.now c.args.right.now c.loop-now.points.items (sides_of c.loop-now.before) c.in-Some.moment.time _ _
    (rw c.in-Some.is at c.loop-now.invariant.so_far) (sides_of c.in_ok-sides.sides) (sym c.in_ok-sides.ensures.list) q e) c.in_err-add_points.ensures)

pub loop-now-preserved : goal.loop-now-preserved
loop-now-preserved c =
    let w : with_front c.add_points.new.points.items (least_after passes_Q c.args.left.now c.args.right.now (sides_of c.in_ok-sides.sides)
    (times_after c.in-Some.moment.time c.args.left.now c.args.right.now))
    ≡ least_from passes_Q c.args.left.now c.args.right.now (both_times c.args.left.now c.args.right.now) =
    step_goes passes_Q c.args.part c.args.left.now c.args.right.now c.loop-now.points.items (sides_of c.loop-now.before) c.in-Some.moment.time _ _
    (rw c.in-Some.is at c.loop-now.invariant.so_far) (sides_of c.in_ok-sides.sides) (sym c.in_ok-sides.ensures.list) c.add_points.new.points.items c.in_ok-add_points.ensures in
    record {
      kept = c.in_ok-sides.ensures.kept;
      there = c.next_moment-now-in-Some.ensures.there;
      later = subst (λ (t : ℚ). IfSome c.next_moment-now-in-Some.result (λ next. t <ℚ next.time)) (sym c.in_ok-sides.ensures.time) c.next_moment-now-in-Some.ensures.later;
      so_far = rw c.next_moment-now-in-Some.ensures.times at w;
    }

pub returns : goal.returns
unfolding checked_least
returns c = front_ends c.args.part c.loop-now.points.items _ (rw c.in_default.is at c.loop-now.invariant.so_far)

pub returns-in_err-points : goal.returns-in_err-points
returns-in_err-points c =
    let p = err_from_is_err_and c.from_residual-in_err-points.result c.from_residual-in_err-points.ensures.1 in rw (p.1, p.2) tt

pub returns-in_err-push : goal.returns-in_err-push
returns-in_err-push c =
    let p = err_from_is_err_and c.from_residual-in_err-push.result c.from_residual-in_err-push.ensures.1 in rw (p.1, p.2) tt

pub sides_with-requires-in-Some-clause-there : goal.sides_with-requires-in-Some-clause-there
sides_with-requires-in-Some-clause-there c = rw c.in-Some.is at c.loop-now.invariant.there

pub next_moment-now-requires-in-Some-clause-there : goal.next_moment-now-requires-in-Some-clause-there
next_moment-now-requires-in-Some-clause-there c = rw c.in-Some.is at c.loop-now.invariant.there

pub add_points-requires : goal.add_points-requires
add_points-requires c =
    subst (λ (t : ℚ). c.loop-now.before.time <ℚ t) (sym c.in_ok-sides.ensures.time) (rw c.in-Some.is at c.loop-now.invariant.later)

pub sides_with-requires-in-Some-clause-left : goal.sides_with-requires-in-Some-clause-left
sides_with-requires-in-Some-clause-left c = c.requires.left

pub sides_with-requires-in-Some-clause-right : goal.sides_with-requires-in-Some-clause-right
sides_with-requires-in-Some-clause-right c = c.requires.right

pub sides_with-requires-in-Some-clause-kept : goal.sides_with-requires-in-Some-clause-kept
sides_with-requires-in-Some-clause-kept c = c.loop-now.invariant.kept

pub next_moment-now-requires-in-Some-clause-left : goal.next_moment-now-requires-in-Some-clause-left
next_moment-now-requires-in-Some-clause-left c = c.requires.left

pub next_moment-now-requires-in-Some-clause-right : goal.next_moment-now-requires-in-Some-clause-right
next_moment-now-requires-in-Some-clause-right c = c.requires.right

pub next_moment-now-requires-clause-left : goal.next_moment-now-requires-clause-left
next_moment-now-requires-clause-left c = c.requires.left

pub next_moment-now-requires-clause-right : goal.next_moment-now-requires-clause-right
next_moment-now-requires-clause-right c = c.requires.right

pub loop-now-smaller : goal.loop-now-smaller
loop-now-smaller c = fewer_left c.args.left.now c.args.right.now c.loop-now.now c.in-Some.moment c.next_moment-now-in-Some.result c.in-Some.is c.next_moment-now-in-Some.ensures.times

pub sides_with-requires-clause-kept : goal.sides_with-requires-clause-kept
sides_with-requires-clause-kept c = c.none-kept.ensures c.args.left.now c.args.right.now
