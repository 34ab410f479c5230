use Rattle.std.proofs.Common.{take, Ok, flat_map}
use Rattle.nf_forever.proofs.Common.{range_with_len, SinkFault, state_of, GatheredLines, slope_line, tail_in}
use Rattle.nf_forever.proofs.tail_lines.put_slopes.Given as goal

abbrev pub invariant-loop-node : goal.invariant-loop-node
invariant-loop-node g l = let out = g.O.Sink in
    GatheredLines {E = SinkFault} (state_of out l.initial.out) (state_of out l.out) l.initial.page l.page
    (flat_map (slope_line l.net (tail_in l.tail)) (take l.node (range_with_len 0 l.net.net.nodes))) (Ok tt)
