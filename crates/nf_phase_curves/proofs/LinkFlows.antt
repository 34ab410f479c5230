-- The flow over time of growing curves, link by link.
use Rattle.std.proofs.Common.{◌≡◌, List, [], ◌∷◌, ◌++◌, map, sym, ap, ◌∙◌}
use Rattle.nf_phase_curves.proofs.Common.{map-append, ℚ, Point, Trace, Flow, GrowingCurve, LinkCurves, Roomy, all_grown, flow_so_far, with_link}
use Rattle.nf_phase_curves.proofs.Places.{grown_pushed}

module _ (reached : ℚ) (labels : List GrowingCurve) where
  with_next : (links : List LinkCurves) (c : LinkCurves) → with_link (flow_so_far reached labels links) c.inflow c.outflow c.queue.points ≡ flow_so_far reached labels (links ++ c ∷ [])
  with_next links c = λ i. record {
    reached = reached;
    labels = map (λ (l : GrowingCurve). l.points) labels;
    inflows = sym (map-append (λ (l : LinkCurves). l.inflow) links (c ∷ [])) i;
    outflows = sym (map-append (λ (l : LinkCurves). l.outflow) links (c ∷ [])) i;
    queues = sym (map-append (λ (l : LinkCurves). l.queue.points) links (c ∷ [])) i;
  }

  -- With one more link.
  pub one_more_link : (links : List (Roomy LinkCurves)) (next : Roomy LinkCurves) (before after : Flow) (inflow outflow : Trace) (queue : List Point)
      → before ≡ flow_so_far reached labels (all_grown links) → inflow ≡ next.grown.inflow → outflow ≡ next.grown.outflow → queue ≡ next.grown.queue.points
      → after ≡ with_link before inflow outflow queue → after ≡ flow_so_far reached labels (all_grown (links ++ next ∷ []))
  one_more_link links next before after inflow outflow queue so is_inflow is_outflow is_queue e =
      e ∙ (λ i. with_link (so i) (is_inflow i) (is_outflow i) (is_queue i)) ∙ with_next (all_grown links) next.grown
      ∙ ap (flow_so_far reached labels) (sym (grown_pushed links next))
