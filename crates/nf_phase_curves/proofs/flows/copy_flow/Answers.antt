use Rattle.std.proofs.Common.{◌∙◌, List, [], ◌∷◌, ◌++◌, take, refl, ap}
use Rattle.nf_phase_curves.proofs.Common.{take_all, slice_get_read, seen_trace, seen_flow, LinkCurves, take_pushed, Roomy, all_grown, flow_so_far}
use Rattle.nf_phase_curves.proofs.LinkFlows.{one_more_link}
use Rattle.nf_phase_curves.proofs.flows.copy_flow.Goals as goal

pub loop-curves-init : goal.loop-curves-init
loop-curves-init c = c.without_links-flow.ensures ∙ (λ i. record { reached = c.args.reached; labels = c.in_ok-labels.ensures i; inflows = []; outflows = []; queues = [] })

pub loop-curves-preserved : goal.loop-curves-preserved
loop-curves-preserved c =
    let so_far = take c.loop-curves.curves-index c.args.links.now in
    let at = slice_get_read c.args.links.now _ c.loop-curves.curves-index c.curves-item.result refl c.loop-curves-test.true c.curves-item.is in
    one_more_link c.args.reached (all_grown c.args.labels.now) so_far c.curves-item.result (seen_flow c.loop-curves.flow) (seen_flow c.add_link.new.flow)
    (seen_trace c.in_ok-link.link.inflow) (seen_trace c.in_ok-link.link.outflow) c.in_ok-link.link.queue.points c.loop-curves.invariant
    c.in_ok-link.ensures.inflow c.in_ok-link.ensures.outflow c.in_ok-link.ensures.queue c.in_ok-add_link.ensures
    ∙ ap (λ (l : List (Roomy LinkCurves)). flow_so_far c.args.reached (all_grown c.args.labels.now) (all_grown l))
    (take_pushed c.args.links.now so_far (so_far ++ c.curves-item.result ∷ []) c.loop-curves.curves-index c.curves-item.result at refl refl)

pub returns : goal.returns
returns c =
    c.loop-curves.invariant
    ∙ ap (λ (l : List (Roomy LinkCurves)). flow_so_far c.args.reached (all_grown c.args.labels.now) (all_grown l))
    (take_all c.loop-curves.curves-index c.args.links.now c.loop-curves-test.false)
