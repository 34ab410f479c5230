use Rattle.nf_complete_cycles.proofs.Rounding.{lowest_more}
use Rattle.nf_complete_cycles.proofs.cycle.lowest.Goals as goal

pub loop-step-preserved : goal.loop-step-preserved
loop-step-preserved c =
    lowest_more c.args.steps.now c.loop-step.best c.loop-step.step-index c.step-item.result c.lower.result c.loop-step-test.true c.step-item.is c.lower.ensures c.loop-step.invariant
