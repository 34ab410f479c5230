use Rattle.std.proofs.Common.{◌≡◌}
use Rattle.nf_curve.proofs.Common.{passes_Q, checked_cut, checked_cut-values}
use Rattle.nf_curve.proofs.Exits.{was_ok}
use Rattle.nf_curve.proofs.Points.{points_seen, curve_seen, curve_read}
use Rattle.nf_curve.proofs.curve.Curve.cut.Goals as goal

pub invariant_of-result : goal.invariant_of-result
invariant_of-result c =
    let curve = curve_read c.deref.result.now _ c.deref.ensures.value c.self.invariant in
    (checked_cut-values passes_Q c.deref.result.now c.args.last c.in_ok-points.points.items curve c.requires
    (was_ok c.args.part (checked_cut passes_Q c.deref.result.now c.args.last) c.in_ok-points.points.items c.in_ok-points.ensures)).curve

pub returns-clause-cut : goal.returns-clause-cut
returns-clause-cut c =
    let e : c.deref.result.now ≡ c.args.self.now.points = points_seen _ _ _ _ c.deref.ensures.value c.self.view_is in
    let curve = curve_seen _ _ _ c.self.invariant c.self.view_is in
    checked_cut-values passes_Q c.args.self.now.points c.args.last c.in_ok-points.points.items curve c.requires
    (was_ok c.args.part (checked_cut passes_Q c.args.self.now.points c.args.last) c.in_ok-points.points.items (rw e at c.in_ok-points.ensures))
