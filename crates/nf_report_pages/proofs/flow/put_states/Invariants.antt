use Rattle.std.proofs.Common.{take, length, Ok, flat_map}
use Rattle.nf_report_pages.proofs.Common.{range_with_len, SinkFault, state_of, state_lines, GatheredLines}
use Rattle.nf_report_pages.proofs.flow.put_states.Given as goal

abbrev pub invariant-loop-link : goal.invariant-loop-link
invariant-loop-link g l = let out = g.O.Sink in
    GatheredLines {E = SinkFault} (state_of out l.initial.out) (state_of out l.out) l.initial.page l.page
    (flat_map (state_lines l.net l.last) (take l.link (range_with_len 0 (length l.net.net.links)))) (Ok tt)
