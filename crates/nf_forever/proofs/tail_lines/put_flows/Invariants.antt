use Rattle.std.proofs.Common.{take, length, Ok, flat_map}
use Rattle.nf_forever.proofs.Common.{range_with_len, SinkFault, state_of, GatheredLines, flow_line, tail_in}
use Rattle.nf_forever.proofs.tail_lines.put_flows.Given as goal

abbrev pub invariant-loop-link : goal.invariant-loop-link
invariant-loop-link g l = let out = g.O.Sink in
    GatheredLines {E = SinkFault} (state_of out l.initial.out) (state_of out l.out) l.initial.page l.page
    (flat_map (flow_line l.net (tail_in l.tail)) (take l.link (range_with_len 0 (length l.net.net.links)))) (Ok tt)
