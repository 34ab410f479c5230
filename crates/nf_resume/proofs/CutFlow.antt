-- A cut flow: its labels first, and then the curves of its links.
use Rattle.std.proofs.Common.{◌≡◌, ℕ, ◌<◌, List, length, sym, ◌∙◌, Ok, Err}
use Rattle.nf_resume.proofs.Common.{ℚ, 0ℚ, ◌≤ℚ◌, Passing, Part, PassedAt, Halt, Stops, at_part, each, Point, Network, IsNetwork, Flow, points_at}
use Rattle.nf_resume.proofs.Common.{Equilibrium, was_ok, after_ok, after_err, stops_on, value_at_end, OfLink, links_with, cut_short, cut_link, cut_flow_of}
use Rattle.nf_resume.proofs.Common.{end-nn, each_length, AreLists}
use Rattle.nf_model.specs.Equilibrium.{Trace}
use Rattle.nf_resume_def.specs.Resuming.{CutLink, cut_flow}

-- A failure of the labels is a failure of the whole.
pub labels_stop : (passes : Passing) (part : Part) (net : Network) (flow : Flow) (h : Halt ℚ) → Stops (λ (q : ℚ). q) h (at_part part (each (cut_short passes flow.reached) flow.labels))
    → Stops (λ (q : ℚ). q) h (at_part part (cut_flow passes net flow))
unfolding cut_flow
labels_stop passes part net flow h s =
    stops_on h (at_part part (each (cut_short passes flow.reached) flow.labels)) (at_part part (cut_flow passes net flow))
    (λ p e. after_err part (each (cut_short passes flow.reached) flow.labels) _ p e) s

module _ (passes : Passing) (part : Part) (net : Network) (flow : Flow) (labels : List (List Point))
    (by_labels : at_part part (each (cut_short passes flow.reached) flow.labels) ≡ Ok labels) where
  abbrev links : List OfLink
  links = links_with net.links flow.inflows flow.outflows flow.queues

  -- ---- the labels
  pub labels_count : Equilibrium net flow → length labels ≡ net.nodes
  labels_count is =
      each_length (cut_short passes flow.reached) flow.labels labels (was_ok part (each (cut_short passes flow.reached) flow.labels) labels by_labels)
      ∙ is.shape.labels.count

  pub labels_end : IsNetwork net → Equilibrium net flow → (v : ℕ) → v < net.nodes → 0ℚ ≤ℚ value_at_end (points_at labels v)
  labels_end good is v h = end-nn passes net flow good is labels (was_ok part (each (cut_short passes flow.reached) flow.labels) labels by_labels) v h

  -- ---- the links
  go_on : (p : PassedAt ℚ) → at_part part (each (cut_link passes labels) links) ≡ Err p → at_part part (cut_flow passes net flow) ≡ Err p
  unfolding cut_flow
  go_on p e = after_ok part (each (cut_short passes flow.reached) flow.labels) _ labels by_labels ∙ after_err part (each (cut_link passes labels) links) _ p e

  pub links_stop : (h : Halt ℚ) → Stops (λ (q : ℚ). q) h (at_part part (each (cut_link passes labels) links)) → Stops (λ (q : ℚ). q) h (at_part part (cut_flow passes net flow))
  links_stop h s = stops_on h (at_part part (each (cut_link passes labels) links)) (at_part part (cut_flow passes net flow)) go_on s

  -- ---- all of it
  module _ (cuts : List CutLink) (by_links : at_part part (each (cut_link passes labels) links) ≡ Ok cuts) where
    whole : at_part part (cut_flow passes net flow) ≡ Ok (cut_flow_of passes flow.reached labels cuts)
    unfolding cut_flow
    whole = after_ok part (each (cut_short passes flow.reached) flow.labels) _ labels by_labels ∙ after_ok part (each (cut_link passes labels) links) _ cuts by_links

    pub flow_is_cut : (inflows outflows : List Trace) (queues : List (List Point)) → AreLists inflows outflows queues cuts
        → at_part part (cut_flow passes net flow) ≡ Ok (record { reached = flow.reached; labels = labels; inflows = inflows; outflows = outflows; queues = queues })
    flow_is_cut inflows outflows queues a =
        whole ∙ (λ i. Ok (record { reached = flow.reached; labels = labels; inflows = (sym a.are_inflows) i; outflows = (sym a.are_outflows) i; queues = (sym a.are_queues) i }))
