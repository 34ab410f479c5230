use Rattle.std.proofs.Common.{List, ◌++◌, length, map, refl, sym, ◌∙◌}
use Rattle.nf_report_pages.proofs.Common.{length-map, for_each, label_lines, link_lines, seen_flow, seen_trace, Line, never_lines}
use Rattle.nf_report_pages.proofs.Gathering.{gathered_next, gathered_failed, gathered_then_failed, right_first}
use Rattle.nf_report_pages.proofs.flow.put_flow.Goals as goal

pub put_labels-requires : goal.put_labels-requires
put_labels-requires g c = sym (length-map c.args.flow.now.labels.items _) ∙ c.requires.labels.count

pub put_links-requires : goal.put_links-requires
put_links-requires g c = record {
  inflows = sym (length-map c.args.flow.now.inflows.items seen_trace) ∙ sym (length-map (map seen_trace c.args.flow.now.inflows.items) _) ∙ c.requires.inflows.count;
  outflows = sym (length-map c.args.flow.now.outflows.items seen_trace) ∙ sym (length-map (map seen_trace c.args.flow.now.outflows.items) _) ∙ c.requires.outflows.count;
  queues = sym (length-map c.args.flow.now.queues.items _) ∙ c.requires.queues.count;
}

pub returns-in_err-put_labels : goal.returns-in_err-put_labels
returns-in_err-put_labels g c =
    let first : List Line = for_each c.args.net.now.net.nodes (label_lines c.args.net.now (seen_flow c.args.flow.now)) in
    let second : List Line = never_lines c.args.net.now.idle_nodes in
    let third : List Line = for_each (length c.args.net.now.net.links) (link_lines c.args.net.now (seen_flow c.args.flow.now)) in
    gathered_failed first (second ++ third) (first ++ second ++ third) _ (right_first first second third) c.from_residual.ensures.0 c.in_err-put_labels.ensures

pub returns-in_err-put_idle : goal.returns-in_err-put_idle
returns-in_err-put_idle g c =
    let first : List Line = for_each c.args.net.now.net.nodes (label_lines c.args.net.now (seen_flow c.args.flow.now)) in
    let second : List Line = never_lines c.args.net.now.idle_nodes in
    let third : List Line = for_each (length c.args.net.now.net.links) (link_lines c.args.net.now (seen_flow c.args.flow.now)) in
    gathered_then_failed first second third (first ++ second ++ third) _ refl c.from_residual-in_err-put_idle.ensures.0 c.in_ok-put_labels.ensures c.in_err-put_idle.ensures

pub returns : goal.returns
returns g c =
    let first : List Line = for_each c.args.net.now.net.nodes (label_lines c.args.net.now (seen_flow c.args.flow.now)) in
    let second : List Line = never_lines c.args.net.now.idle_nodes in
    let third : List Line = for_each (length c.args.net.now.net.links) (link_lines c.args.net.now (seen_flow c.args.flow.now)) in
    gathered_next (first ++ second) third (first ++ second ++ third) refl
    (gathered_next first second (first ++ second) refl c.in_ok-put_labels.ensures c.in_ok-put_idle.ensures) c.put_links.ensures
