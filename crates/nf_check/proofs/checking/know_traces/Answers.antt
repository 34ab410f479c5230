use Rattle.nf_check.proofs.Common.{next_trace}
use Rattle.nf_check.proofs.checking.know_traces.Goals as goal

pub loop-trace-preserved : goal.loop-trace-preserved
loop-trace-preserved c = next_trace c.args.traces.now c.loop-trace.trace-index c.trace-item.result c.loop-trace-test.true c.trace-item.is c.recall.ensures.curve c.loop-trace.invariant
