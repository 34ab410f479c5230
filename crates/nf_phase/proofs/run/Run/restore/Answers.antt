use Rattle.std.proofs.Common.{List, length, map, refl, sym, ap, subst, ◌∙◌, Ok}
use Rattle.nf_phase.proofs.Common.{err_from_is_err_and, IfOk-from_err, Curve, passes_Q, each, at_part, HasSlopes, Standing, value_at_end, growing}
use Rattle.nf_phase.proofs.Common.{restore_list, Grown, was_ok, stops_on, all_grown, of_links, restored, flow_restored}
use Rattle.nf_curve.specs.Flows.{seen_trace, seen_flow as flow_in}
use Rattle.nf_curve.specs.declared.flow.Trace as code
use Rattle.nf_phase.proofs.RestoreList.{labels_pass, links_pass, list_made, ends_same, flow_counts}
use Rattle.nf_phase.proofs.Standings.{same_parts}
use Rattle.nf_phase.proofs.RunStates.{state_reached}
use Rattle.nf_phase.proofs.run.Run.restore.Goals as goal

pub restore_links-requires-clause-outflows : goal.restore_links-requires-clause-outflows
restore_links-requires-clause-outflows c =
    ap (λ (l : List code.Trace). length l) c.deref-4.ensures.value ∙ (flow_counts c.args.net.now.net c.args.flow c.requires.equilibrium).0
    ∙ sym (ap (λ (l : List code.Trace). length l) c.deref-3.ensures.value)

pub restore_links-requires-clause-queues : goal.restore_links-requires-clause-queues
restore_links-requires-clause-queues c =
    ap (λ (l : List Grown). length l) c.deref-5.ensures.value ∙ (flow_counts c.args.net.now.net c.args.flow c.requires.equilibrium).1
    ∙ sym (ap (λ (l : List code.Trace). length l) c.deref-3.ensures.value)

pub restore_links-requires-clause-inflow_rates : goal.restore_links-requires-clause-inflow_rates
restore_links-requires-clause-inflow_rates c =
    subst (λ (l : List code.Trace). HasSlopes (map seen_trace l)) (sym c.deref-3.ensures.value) c.requires.equilibrium.inflow_rates

pub restore_links-requires-clause-outflow_rates : goal.restore_links-requires-clause-outflow_rates
restore_links-requires-clause-outflow_rates c =
    subst (λ (l : List code.Trace). HasSlopes (map seen_trace l)) (sym c.deref-4.ensures.value) c.requires.equilibrium.outflow_rates

pub returns-in_err-label_curves-clause-list : goal.returns-in_err-label_curves-clause-list
returns-in_err-label_curves-clause-list c =
    let p = err_from_is_err_and c.from_residual-in_err-label_curves.result c.from_residual-in_err-label_curves.ensures.1 in
    rw (p.1, p.2) (stops_on c.in_err-label_curves.field-0.0 (at_part Curve (each (growing passes_Q) (map (λ (g : Grown). g.points) c.deref-2.result.now)))
    (at_part Curve (restore_list passes_Q (flow_in c.args.flow) c.args.last))
    (λ at e. labels_pass passes_Q (flow_in c.args.flow) c.args.last at (ap
    (λ (l : List Grown). at_part Curve (each (growing passes_Q) (map (λ (g : Grown). g.points) l))) (sym c.deref-2.ensures.value) ∙ e))
    c.in_err-label_curves.ensures)

pub returns-in_err-link_curves-clause-list : goal.returns-in_err-link_curves-clause-list
returns-in_err-link_curves-clause-list c =
    let p = err_from_is_err_and c.from_residual-in_err-link_curves.result c.from_residual-in_err-link_curves.ensures.1 in
    rw (p.1, p.2) (stops_on c.in_err-link_curves.field-0.0 (at_part Curve
    (of_links passes_Q (map seen_trace c.deref-3.result.now) (map seen_trace c.deref-4.result.now) (map (λ (g : Grown). g.points) c.deref-5.result.now)))
    (at_part Curve (restore_list passes_Q (flow_in c.args.flow) c.args.last))
    (λ at e. links_pass passes_Q (flow_in c.args.flow) c.args.last (all_grown c.in_ok-label_curves.label_curves.items)
    (ap (λ (l : List Grown). at_part Curve (each (growing passes_Q) (map (λ (g : Grown). g.points) l))) (sym c.deref-2.ensures.value) ∙ c.in_ok-label_curves.ensures) at
    (rw (sym c.deref-3.ensures.value, sym c.deref-4.ensures.value, sym c.deref-5.ensures.value) e)) c.in_err-link_curves.ensures)

pub returns-clause-list : goal.returns-clause-list
returns-clause-list c =
    list_made passes_Q (flow_in c.args.flow) c.args.last (all_grown c.in_ok-label_curves.label_curves.items)
    (ap (λ (l : List Grown). at_part Curve (each (growing passes_Q) (map (λ (g : Grown). g.points) l))) (sym c.deref-2.ensures.value)
    ∙ c.in_ok-label_curves.ensures) (all_grown c.in_ok-link_curves.link_curves.items)
    (rw (sym c.deref-3.ensures.value, sym c.deref-4.ensures.value, sym c.deref-5.ensures.value) c.in_ok-link_curves.ensures)
    ∙ ap (λ (s : Standing). Ok s) (same_parts c.args.flow.reached _ _ (all_grown c.in_ok-label_curves.label_curves.items) (all_grown c.in_ok-link_curves.link_curves.items) c.args.last
    (ends_same c.args.flow.labels.items ∙ sym (c.in_ok-labels.ensures ∙ ap (map (λ (g : Grown). value_at_end g.points)) c.deref.ensures.value)))

pub returns-clause-state : goal.returns-clause-state
returns-clause-state c = state_reached passes_Q c.args.net.now.net c.recall.ensures.network _ (restored (record {
  flow = (flow_in c.args.flow);
  last = c.args.last;
  equilibrium = c.requires.equilibrium;
  ends = c.requires.ends;
  short = c.requires.short;
  states = c.requires.states;
  no_full = c.requires.no_full;
  stands = was_ok Curve (restore_list passes_Q (flow_in c.args.flow) c.args.last) _ (returns-clause-list c);
}))

pub returns-clause-flow : goal.returns-clause-flow
returns-clause-flow c = flow_restored passes_Q c.args.net.now.net c.recall.ensures.network _ (record {
  flow = (flow_in c.args.flow);
  last = c.args.last;
  equilibrium = c.requires.equilibrium;
  ends = c.requires.ends;
  short = c.requires.short;
  states = c.requires.states;
  no_full = c.requires.no_full;
  stands = was_ok Curve (restore_list passes_Q (flow_in c.args.flow) c.args.last) _ (returns-clause-list c);
})

pub same-last : goal.same-last
same-last c = refl

pub returns-clause-last : goal.returns-clause-last
returns-clause-last c = refl

pub returns-in_err-labels-clause-state : goal.returns-in_err-labels-clause-state
returns-in_err-labels-clause-state c = IfOk-from_err c.from_residual.result _ c.from_residual.ensures.0

pub returns-in_err-label_curves-clause-state : goal.returns-in_err-label_curves-clause-state
returns-in_err-label_curves-clause-state c = IfOk-from_err c.from_residual-in_err-label_curves.result _ c.from_residual-in_err-label_curves.ensures.0

pub returns-in_err-link_curves-clause-state : goal.returns-in_err-link_curves-clause-state
returns-in_err-link_curves-clause-state c = IfOk-from_err c.from_residual-in_err-link_curves.result _ c.from_residual-in_err-link_curves.ensures.0
