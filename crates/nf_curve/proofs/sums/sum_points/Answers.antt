use Rattle.std.proofs.Common.{◌≡◌, List, ◌∷◌, sym, ap, ◌∙◌}
use Rattle.nf_curve.proofs.Common.{err_from_is_err_and, ℚ, passes_Q, Checked, each, with_front, both_times, sum_at, times_after}
use Rattle.nf_curve_def.specs.Sums.{checked_sum}
use Rattle.nf_curve.proofs.Walking.{fewer_left}
use Rattle.nf_curve.proofs.Exits.{front_none, each_goes, each_stops, each_ends}
use Rattle.nf_curve.proofs.sums.sum_points.Goals as goal

pub loop-now-init : goal.loop-now-init
loop-now-init c =
    let sums : List ℚ → Checked (List (ℚ × ℚ)) = each (sum_at passes_Q c.args.left.now c.args.right.now) in
    record {
      kept = c.none-kept.ensures c.args.left.now c.args.right.now;
      there = c.first_moment.ensures.there;
      so_far = ap (λ (l : List (ℚ × ℚ)). with_front l (sums (c.first_moment.result.time ∷ times_after c.first_moment.result.time c.args.left.now
          c.args.right.now))) c.in_ok-points.ensures.items
          ∙ front_none (sums (c.first_moment.result.time ∷ times_after c.first_moment.result.time c.args.left.now c.args.right.now)) ∙ ap sums (sym c.first_moment.ensures.times);
    }

pub returns-in_err-points : goal.returns-in_err-points
returns-in_err-points c = let p = err_from_is_err_and c.from_residual.result c.from_residual.ensures.1 in rw (p.1, p.2) tt

pub returns-in_err-point : goal.returns-in_err-point
unfolding checked_sum
returns-in_err-point c =
    let p = err_from_is_err_and c.from_residual-in_err-point.result c.from_residual-in_err-point.ensures.1 in
    rw (p.1, p.2) (each_stops c.args.part (sum_at passes_Q c.args.left.now c.args.right.now) c.loop-now.points.items _ c.in-Some.moment.time _
    (rw c.in-Some.is at c.loop-now.invariant.so_far) c.in_err-point.field-0.0 (sym c.in_err-point.ensures.point))

pub loop-now-preserved : goal.loop-now-preserved
loop-now-preserved c =
    let w : with_front c.push.new.self.items (each (sum_at passes_Q c.args.left.now c.args.right.now) (times_after c.in-Some.moment.time c.args.left.now c.args.right.now))
    ≡ each (sum_at passes_Q c.args.left.now c.args.right.now) (both_times c.args.left.now c.args.right.now) =
    ap (λ (l : List (ℚ × ℚ)). with_front l (each (sum_at passes_Q c.args.left.now c.args.right.now)
    (times_after c.in-Some.moment.time c.args.left.now c.args.right.now))) c.in_ok-push.ensures.items
    ∙ each_goes c.args.part (sum_at passes_Q c.args.left.now c.args.right.now) c.loop-now.points.items _ c.in-Some.moment.time _
    (rw c.in-Some.is at c.loop-now.invariant.so_far) c.in_ok-point.point (sym c.in_ok-point.ensures.point) in
    record { kept = c.in_ok-point.ensures.kept; there = c.next_moment-now.ensures.there; so_far = rw c.next_moment-now.ensures.times at w }

pub returns : goal.returns
unfolding checked_sum
returns c = each_ends (sum_at passes_Q c.args.left.now c.args.right.now) c.loop-now.points.items _ c.args.part (rw c.in_default.is at c.loop-now.invariant.so_far)

pub returns-in_err-push : goal.returns-in_err-push
returns-in_err-push c =
    let p = err_from_is_err_and c.from_residual-in_err-push.result c.from_residual-in_err-push.ensures.1 in rw (p.1, p.2) tt

pub sum_at-requires-clause-left : goal.sum_at-requires-clause-left
sum_at-requires-clause-left c = c.requires.left

pub sum_at-requires-clause-right : goal.sum_at-requires-clause-right
sum_at-requires-clause-right c = c.requires.right

pub sum_at-requires-clause-there : goal.sum_at-requires-clause-there
sum_at-requires-clause-there c = rw c.in-Some.is at c.loop-now.invariant.there

pub sum_at-requires-clause-kept : goal.sum_at-requires-clause-kept
sum_at-requires-clause-kept c = c.loop-now.invariant.kept

pub next_moment-now-requires-clause-left : goal.next_moment-now-requires-clause-left
next_moment-now-requires-clause-left c = c.requires.left

pub next_moment-now-requires-clause-right : goal.next_moment-now-requires-clause-right
next_moment-now-requires-clause-right c = c.requires.right

pub next_moment-now-requires-clause-there : goal.next_moment-now-requires-clause-there
next_moment-now-requires-clause-there c = rw c.in-Some.is at c.loop-now.invariant.there

pub loop-now-smaller : goal.loop-now-smaller
loop-now-smaller c = fewer_left c.args.left.now c.args.right.now c.loop-now.now c.in-Some.moment c.next_moment-now.result c.in-Some.is c.next_moment-now.ensures.times
