use Rattle.std.proofs.Common.{[], ◌∙◌}
use Rattle.nf_phase_curves.proofs.Common.{seen_trace, seen_flow, all_grown}
use Rattle.nf_phase_curves.proofs.LinkFlows.{one_more_link}
use Rattle.nf_phase_curves.proofs.flows.finish_flow.Goals as goal

pub loop-curves-init : goal.loop-curves-init
loop-curves-init c = c.without_links-flow.ensures ∙ (λ i. record { reached = c.args.reached; labels = c.in_ok-labels.ensures i; inflows = []; outflows = []; queues = [] })

pub loop-curves-preserved : goal.loop-curves-preserved
loop-curves-preserved c =
    one_more_link c.args.reached (all_grown c.args.labels.items) c.loop-curves.yielded c.in-Some.curves (seen_flow c.loop-curves.flow) (seen_flow c.add_link.new.flow)
    (seen_trace c.in_ok-link.link.inflow) (seen_trace c.in_ok-link.link.outflow) c.in_ok-link.link.queue.points c.loop-curves.invariant
    c.in_ok-link.ensures.inflow c.in_ok-link.ensures.outflow c.in_ok-link.ensures.queue c.in_ok-add_link.ensures
