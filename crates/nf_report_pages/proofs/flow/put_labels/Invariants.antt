use Rattle.std.proofs.Common.{take, Ok, flat_map}
use Rattle.nf_report_pages.proofs.Common.{range_with_len, SinkFault, state_of, seen_flow, label_lines, GatheredLines}
use Rattle.nf_report_pages.proofs.flow.put_labels.Given as goal

abbrev pub invariant-loop-node : goal.invariant-loop-node
invariant-loop-node g l = let out = g.O.Sink in
    GatheredLines {E = SinkFault} (state_of out l.initial.out) (state_of out l.out) l.initial.page l.page
    (flat_map (label_lines l.net (seen_flow l.flow)) (take l.node (range_with_len 0 (l.net.net.nodes)))) (Ok tt)
