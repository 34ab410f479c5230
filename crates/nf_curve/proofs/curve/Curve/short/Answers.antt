use Rattle.std.proofs.Common.{◌≡◌}
use Rattle.nf_curve.proofs.Common.{passes_Q, checked_short}
use Rattle.nf_curve_laws.proofs.Short.{checked_short-is}
use Rattle.nf_curve.proofs.Exits.{was_ok}
use Rattle.nf_curve.proofs.Points.{points_seen, curve_seen, curve_read}
use Rattle.nf_curve.proofs.curve.Curve.short.Goals as goal

pub invariant_of-result : goal.invariant_of-result
invariant_of-result c =
    let curve = curve_read c.deref.result.now _ c.deref.ensures.value c.curve.invariant in
    (checked_short-is passes_Q c.deref.result.now c.in_ok-points.points.items curve
    (was_ok c.args.part (checked_short passes_Q c.deref.result.now) c.in_ok-points.points.items c.in_ok-points.ensures)).curve

pub returns-clause-short : goal.returns-clause-short
returns-clause-short c =
    let e : c.deref.result.now ≡ c.args.curve.now.points = points_seen _ _ _ _ c.deref.ensures.value c.curve.view_is in
    let curve = curve_seen _ _ _ c.curve.invariant c.curve.view_is in
    checked_short-is passes_Q c.args.curve.now.points c.in_ok-points.points.items curve
    (was_ok c.args.part (checked_short passes_Q c.args.curve.now.points) c.in_ok-points.points.items (rw e at c.in_ok-points.ensures))
