use Rattle.std.proofs.Common.{take}
use Rattle.nf_report_pages.proofs.Common.{AllByRecursion, seen_trace, Trace, IsFractionTrace}
use Rattle.nf_report_pages.proofs.known.know_traces.Given as goal

abbrev pub invariant-loop-trace : goal.invariant-loop-trace
invariant-loop-trace l = AllByRecursion (λ (trace : Trace). IsFractionTrace (seen_trace trace)) (take l.trace-index l.traces)
