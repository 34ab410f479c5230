use Rattle.std.proofs.Common.{take, Ok}
use Rattle.nf_report_pages.proofs.Common.{SinkFault, state_of, trace_lines, GatheredLines}
use Rattle.nf_report_pages.proofs.curves.put_trace.Given as goal

abbrev pub invariant-loop-index : goal.invariant-loop-index
invariant-loop-index g l = let out = g.O.Sink in
    GatheredLines {E = SinkFault} (state_of out l.initial.out) (state_of out l.out) l.initial.page l.page
    (trace_lines l.key l.name (take l.index l.trace.curve.points) l.trace.rates.items) (Ok tt)
