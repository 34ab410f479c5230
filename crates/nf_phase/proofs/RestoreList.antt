-- The restoring operations, composed of those of the labels and of the links, and the parts of the given flow.
use Rattle.std.proofs.Common.{◌≡◌, List, [], ◌∷◌, length, map, refl, sym, ap, ◌∙◌, Result, Ok, Err}
use Rattle.nf_phase.proofs.Common.{length-map, ℚ, Passing, Curve, Passed, PassedAt, each, at_part, Pattern, Network, Trace, Flow, Equilibrium, GrowingCurve}
use Rattle.nf_phase.proofs.Common.{LinkCurves, Standing, value_at_end, link_curves_of, growing, Grown, after_err, after_ok, err_before, ok_before, of_links}
use Rattle.nf_phase_def.specs.Restoring.{restore_list}
use Rattle.nf_curve.specs.Flows.{seen_trace, seen_flow as flow_in}
use Rattle.nf_curve.specs.declared.flow.Flow as code

-- ---- the whole list
module _ (passes : Passing) (flow : Flow) (last : Pattern) where
  abbrev labels_list : Result (List GrowingCurve) (Passed ℚ)
  labels_list = each (growing passes) flow.labels

  abbrev links_list : Result (List LinkCurves) (Passed ℚ)
  links_list = of_links passes flow.inflows flow.outflows flow.queues

  abbrev stands_with : List GrowingCurve → List LinkCurves → Standing
  stands_with label_curves link_curves =
      record { time = flow.reached; labels = map value_at_end flow.labels; label_curves = label_curves; link_curves = link_curves; made = 0; last = last }

  pub labels_pass : (p : PassedAt ℚ) → at_part Curve labels_list ≡ Err p → at_part Curve (restore_list passes flow last) ≡ Err p
  unfolding restore_list
  labels_pass p e = after_err Curve labels_list _ p e

  module _ (label_curves : List GrowingCurve) (by_labels : at_part Curve labels_list ≡ Ok label_curves) where
    pub links_pass : (p : PassedAt ℚ) → at_part Curve links_list ≡ Err p → at_part Curve (restore_list passes flow last) ≡ Err p
    unfolding restore_list
    links_pass p e =
        after_ok Curve labels_list _ label_curves by_labels
        ∙ after_err Curve (each (growing passes) flow.queues) _ p (err_before Curve (each (growing passes) flow.queues)
        (λ (grown : List GrowingCurve). link_curves_of flow.inflows flow.outflows grown) p e)

    pub list_made : (link_curves : List LinkCurves) → at_part Curve links_list ≡ Ok link_curves
        → at_part Curve (restore_list passes flow last) ≡ Ok (stands_with label_curves link_curves)
    unfolding restore_list
    list_made link_curves e =
        let w = ok_before Curve (each (growing passes) flow.queues) (λ (grown : List GrowingCurve). link_curves_of flow.inflows flow.outflows grown) link_curves e in
        after_ok Curve labels_list _ label_curves by_labels
        ∙ after_ok Curve (each (growing passes) flow.queues) _ w.0 (ap (at_part Curve) w.1)
        ∙ ap (λ (l : List LinkCurves). Ok (stands_with label_curves l)) w.2

-- ---- the results of the parts of a flow
pub ends_same : (curves : List Grown) → map value_at_end (map (λ (g : Grown). g.points) curves) ≡ map (λ (g : Grown). value_at_end g.points) curves
ends_same [] = refl
ends_same (g ∷ curves) = ap (λ (l : List ℚ). value_at_end g.points ∷ l) (ends_same curves)

pub flow_counts : (net : Network) (f : code.Flow) → Equilibrium net (flow_in f) → (length f.outflows.items ≡ length f.inflows.items) × (length f.queues.items ≡ length f.inflows.items)
flow_counts net f is =
    let inflows : length f.inflows.items ≡ length net.links = sym (length-map (map seen_trace f.inflows.items) (λ (t : Trace). t.points)
    ∙ length-map f.inflows.items seen_trace) ∙ is.shape.inflows.count in
    let outflows : length f.outflows.items ≡ length net.links = sym (length-map (map seen_trace f.outflows.items) (λ (t : Trace). t.points)
    ∙ length-map f.outflows.items seen_trace) ∙ is.shape.outflows.count in
    let queues : length f.queues.items ≡ length net.links = sym (length-map f.queues.items (λ (g : Grown). g.points)) ∙ is.shape.queues.count in
    (outflows ∙ sym inflows, queues ∙ sym inflows)
