use Rattle.nf_phase_curves.proofs.Corners.{after_zero}
use Rattle.nf_phase_curves.proofs.growing.GrowingCurve.first_queue.Goals as goal

pub invariant_of-result-2 : goal.invariant_of-result-2
invariant_of-result-2 c =
    after_zero c.in_ok-corners.corners.points c.zero.result c.zero-2.result c.args.label c.is_below.result c.in_ok-corners.ensures c.is_below.ensures
    c.zero-2.ensures c.if-not-is_below.false
