use Rattle.std.proofs.Common.{◌≡◌}
use Rattle.nf_curve.proofs.Common.{passes_Q, checked_sum}
use Rattle.nf_curve_laws.proofs.Sums.{checked_sum-is}
use Rattle.nf_curve.proofs.Exits.{was_ok}
use Rattle.nf_curve.proofs.Points.{points_seen, curve_seen, curve_read}
use Rattle.nf_curve.proofs.curve.Curve.sum.Goals as goal

pub invariant_of-result : goal.invariant_of-result
invariant_of-result c =
    let left = curve_read c.deref.result.now _ c.deref.ensures.value c.left.invariant in
    let right = curve_read c.deref-2.result.now _ c.deref-2.ensures.value c.right.invariant in
    (checked_sum-is passes_Q c.deref.result.now c.deref-2.result.now left right c.in_ok-points.points.items
    (was_ok c.args.part (checked_sum passes_Q c.deref.result.now c.deref-2.result.now) c.in_ok-points.points.items c.in_ok-points.ensures)).curve

pub returns-clause-list : goal.returns-clause-list
returns-clause-list c =
    let left : c.deref.result.now ≡ c.args.left.now.points = points_seen _ _ _ _ c.deref.ensures.value c.left.view_is in
    let right : c.deref-2.result.now ≡ c.args.right.now.points = points_seen _ _ _ _ c.deref-2.ensures.value c.right.view_is in
    rw (left, right) at c.in_ok-points.ensures

pub returns-clause-sum : goal.returns-clause-sum
returns-clause-sum c =
    let left : c.deref.result.now ≡ c.args.left.now.points = points_seen _ _ _ _ c.deref.ensures.value c.left.view_is in
    let right : c.deref-2.result.now ≡ c.args.right.now.points = points_seen _ _ _ _ c.deref-2.ensures.value c.right.view_is in
    checked_sum-is passes_Q c.args.left.now.points c.args.right.now.points (curve_seen _ _ _ c.left.invariant c.left.view_is) (curve_seen _ _ _ c.right.invariant c.right.view_is)
    c.in_ok-points.points.items (was_ok c.args.part (checked_sum passes_Q c.args.left.now.points c.args.right.now.points) c.in_ok-points.points.items
    (rw (left, right) at c.in_ok-points.ensures))
