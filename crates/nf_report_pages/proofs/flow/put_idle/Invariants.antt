use Rattle.std.proofs.Common.{take, Ok}
use Rattle.nf_report_pages.proofs.Common.{SinkFault, state_of, never_lines, GatheredLines}
use Rattle.nf_report_pages.proofs.flow.put_idle.Given as goal

abbrev pub invariant-loop-node : goal.invariant-loop-node
invariant-loop-node g l = let out = g.O.Sink in
    GatheredLines {E = SinkFault} (state_of out l.initial.out) (state_of out l.out) l.initial.page l.page (never_lines (take l.node l.net.idle_nodes)) (Ok tt)
