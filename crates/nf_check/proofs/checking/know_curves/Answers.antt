use Rattle.nf_check.proofs.Common.{IsCurve, next_curve}
use Rattle.nf_check.proofs.checking.know_curves.Goals as goal

pub loop-curve-preserved : goal.loop-curve-preserved
loop-curve-preserved c =
    next_curve (λ l. IsCurve l) c.args.curves.now c.loop-curve.curve-index c.curve-item.result c.loop-curve-test.true c.curve-item.is c.recall.ensures.curve
    c.loop-curve.invariant
