use Rattle.nf_report_pages.proofs.Common.{seen_trace, Trace, IsFractionTrace}
use Rattle.nf_report_pages.proofs.Entries.{one_read, up_to_end, all_image}
use Rattle.nf_report_pages.proofs.known.know_traces.Goals as goal

abbrev HasFractions : Trace → Type 0
HasFractions trace = IsFractionTrace (seen_trace trace)

pub loop-trace-preserved : goal.loop-trace-preserved
loop-trace-preserved c =
    one_read HasFractions c.args.traces.now c.loop-trace.trace-index c.trace-item.result c.loop-trace-test.true c.trace-item.is c.know_trace.ensures c.loop-trace.invariant

pub returns : goal.returns
returns c =
    all_image IsFractionTrace HasFractions seen_trace (λ trace h. h) c.args.traces.now
    (up_to_end HasFractions c.args.traces.now c.loop-trace.trace-index c.loop-trace-test.false c.loop-trace.invariant)
