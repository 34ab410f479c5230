-- Facts on labels and curves in every run state.
use Rattle.std.proofs.Common.{◌≡◌, ℕ, ◌<◌, List, length, sym, ap, subst, ◌∙◌, arith, Option, None}
use Rattle.nf_phase_laws.proofs.Common.{option_map_or, slice_get_within, ℚ, 0ℚ, ◌≤ℚ◌, number_at, Point, Within, Link, Network, IsNetwork, IsLink, hop_of}
use Rattle.nf_phase_laws.proofs.Common.{slack, Standing, flow_of, LastPoint, at, Curves, curves_of, last-append, ≤ℚ_refl, time_of_last, EndsAtLabels}
use Rattle.nf_phase_laws.proofs.CurveRun.{Grown}
use Rattle.nf_phase_laws.proofs.Thin.{slack-is}
use Rattle.nf_phase_laws.proofs.WellRun.{label_points, inflow_points, outflow_points, queue_points, WellRun}

pub end-last : (points : List Point) (last : Point) → LastPoint points last → time_of_last points ≡ last.0
end-last points last l = ap time_of_last l.same ∙ ap (λ (o : Option Point). option_map_or (λ (p : Point). p.0) o 0ℚ) (last-append None l.front last)

module _ (net : Network) (good : IsNetwork net) (s : Standing) (well : WellRun net s) where
  abbrev curves : Curves
  curves = curves_of (flow_of s)

  pub grown_at : Grown net s.time s.labels curves
  grown_at = well.grow

  now : Within 0ℚ s.time s.time
  now = (grown_at.stands.holds.begun, ≤ℚ_refl s.time)

  pub label_count_at : length s.labels ≡ net.nodes
  label_count_at = grown_at.stands.count

  -- the label of the source is the departure
  pub source_label_at : number_at s.labels net.source ≡ s.time
  source_label_at = sym (grown_at.stands.same net.source good.source) ∙ grown_at.stands.holds.source s.time now

  -- no slack of an unbounded link is above 0
  pub unbounded_slack_at : (e : ℕ) (link : Link) → IsLink net e link → link.capacity ≡ None → slack s.labels (hop_of link) ≤ℚ 0ℚ
  unbounded_slack_at e link p none = subst (λ (x : ℚ). x ≤ℚ 0ℚ)
      (sym (slack-is net (at curves.inflows) (at curves.labels) s.time s.labels good grown_at.stands.holds grown_at.stands.same e link p))
      (grown_at.stands.holds.unbounded e link s.time p none now)

  pub ends_at : EndsAtLabels net s
  ends_at = record {
    labels = λ v c here. (let inside : v < net.nodes = (let n = well.label_count in let w = slice_get_within s.label_curves v c here in omega arith) in
        ap time_of_last (sym (label_points s v c here)) ∙ end-last _ _ (grown_at.curves_stand.labels_end v inside));
    inflows = λ e link c p here. (ap time_of_last (sym (inflow_points s e c here)) ∙ end-last _ _ (grown_at.curves_stand.inflows_end e link p)
        ∙ grown_at.stands.same link.tail (good.tails e link p));
    outflows = λ e link c p here. (ap time_of_last (sym (outflow_points s e c here)) ∙ end-last _ _ (grown_at.description_stands.outflows_end e link p)
        ∙ grown_at.stands.same link.head (good.heads e link p));
    queues = λ e link c p here. (ap time_of_last (sym (queue_points s e c here)) ∙ end-last _ _ (grown_at.description_stands.queues_end e link p)
        ∙ grown_at.stands.same link.tail (good.tails e link p));
  }
