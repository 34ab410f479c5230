use Rattle.std.proofs.Common.{take, length, Ok, flat_map}
use Rattle.nf_app_answers.proofs.Common.{range_with_len, SinkFault, state_of, flow_line}
use Rattle.nf_report_pages.specs.Pages.{GatheredLines}
use Rattle.nf_app_answers.proofs.settle_text.put_flows.Given as goal

abbrev pub invariant-loop-link : goal.invariant-loop-link
invariant-loop-link g l = let out = g.O.Sink in
    GatheredLines {E = SinkFault} (state_of out l.initial.out) (state_of out l.out) l.initial.page l.page
    (flat_map (flow_line l.net l.flows) (take l.link (range_with_len 0 (length l.net.net.links)))) (Ok tt)
