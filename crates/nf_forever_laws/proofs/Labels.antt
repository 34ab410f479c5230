-- The label of a node in the flow that is extended by a tail.
use Rattle.std.proofs.Common.{◌≡◌, ℕ, ◌<◌, List, [], ◌∷◌, ◌++◌, length, Bool, true, false, if◌then◌else◌, Option, Some, ⊎_elim, sym, ap, subst, ◌∙◌, arith}
use Rattle.std.specs.Prelude.{slice_get, unwrap_or}
use Rattle.nf_forever_laws.proofs.Common.{slice_get_within, ℚ, 0ℚ, ◌+ℚ◌, ◌-ℚ◌, ◌*ℚ◌, ◌≤ℚ◌, ◌<ℚ◌, lt_ℚ, reading_of, ≤ℚ_antisymm, ≤ℚ_refl, lt_ℚ_cases, linear_eq}
use Rattle.nf_forever_laws.proofs.Common.{number_at, Point, value, Network, Flow, points_at, label, LastPoint, GoesOnTo, ends_at, GoesOnTo-appended, number_is}
use Rattle.nf_forever_laws.proofs.Common.{points_is, Tail, extended_value, labels_then, extended, up_to, flow_until, entry}
use Rattle.nf_model_laws.proofs.Curves.{EndsAt-value}
use Rattle.nf_forever_laws.proofs.Entries.{labels_then_at, labels_with_end_at}
use Rattle.nf_forever_laws.proofs.Steps.{last_point-is}

still : (x y a b s : ℚ) → x ≡ y → a ≡ b → x ≡ y +ℚ (a -ℚ b) *ℚ s
still x y a b s e f = e ∙ none y a b s f
  where
    none : (y a b s : ℚ) → a ≡ b → y ≡ y +ℚ (a -ℚ b) *ℚ s
    none y a b s f = subst (λ (z : ℚ). y ≡ y +ℚ (a -ℚ z) *ℚ s) f (linear_eq (y ∷ a ∷ s ∷ []) [] (search reading_of) tt tt)

module _ (net : Network) (flow : Flow) (tail : Tail) (v : ℕ) (h : v < net.nodes) (curves : length flow.labels ≡ net.nodes) (slopes : length tail.slopes ≡ net.nodes)
    (ends : LastPoint (points_at flow.labels v) (flow.reached, label flow v flow.reached)) where
  abbrev points : List Point
  points = points_at flow.labels v

  module _ (until : ℚ) (below : flow.reached <ℚ until) where
    abbrev labels_ahead : List ℚ
    labels_ahead = labels_then (until -ℚ flow.reached) tail.slopes flow.labels

    label_here : slice_get flow.labels v ≡ Some points
    label_here = let f = entry flow.labels v (omega arith) in f.1 ∙ ap (λ (ps : List Point). Some ps) (sym (points_is flow.labels v f.0 f.1))

    ahead_entry : slice_get labels_ahead v ≡ Some (extended_value points (until -ℚ flow.reached) (number_at tail.slopes v))
    ahead_entry = labels_then_at (until -ℚ flow.reached) tail.slopes flow.labels v (number_at tail.slopes v) points (number_is tail.slopes v (omega arith)) label_here

    ahead_is : number_at labels_ahead v ≡ label flow v flow.reached +ℚ (until -ℚ flow.reached) *ℚ number_at tail.slopes v
    ahead_is = ap (λ (o : Option ℚ). unwrap_or o 0ℚ) ahead_entry
        ∙ ap (λ (p : Point). p.1 +ℚ (until -ℚ flow.reached) *ℚ number_at tail.slopes v) (last_point-is points (flow.reached, label flow v flow.reached) ends)

    label_new : points_at (extended net flow tail until).labels v ≡ points ++ (until, number_at labels_ahead v) ∷ []
    label_new = points_is (extended net flow tail until).labels v (points ++ (until, number_at labels_ahead v) ∷ [])
        (labels_with_end_at until labels_ahead flow.labels v (number_at labels_ahead v) points (number_is labels_ahead v (slice_get_within labels_ahead v _ ahead_entry)) label_here)

    goes : GoesOnTo points (points ++ (until, number_at labels_ahead v) ∷ []) (flow.reached, label flow v flow.reached) (until, number_at labels_ahead v)
    goes = GoesOnTo-appended points (flow.reached, label flow v flow.reached) (until, number_at labels_ahead v) ends below

    label-extended : label (extended net flow tail until) v until ≡ label flow v flow.reached +ℚ (until -ℚ flow.reached) *ℚ number_at tail.slopes v
    label-extended = ap (λ (ps : List Point). value ps until) label_new
        ∙ EndsAt-value (points ++ (until, number_at labels_ahead v) ∷ []) (until, number_at labels_ahead v) until
        (ends_at (points ++ (until, number_at labels_ahead v) ∷ []) (until, number_at labels_ahead v) goes.ends) (≤ℚ_refl until)
        ∙ ahead_is

  pub label-until : (until : ℚ) → flow.reached ≤ℚ until
      → label (flow_until net flow tail until) v until ≡ label flow v flow.reached +ℚ (until -ℚ flow.reached) *ℚ number_at tail.slopes v
  label-until until from = ⊎_elim
      (λ (w : (lt_ℚ flow.reached until ≡ true) × (flow.reached <ℚ until)). by true w.0 ∙ label-extended until w.1)
      (λ (w : (lt_ℚ flow.reached until ≡ false) × (until ≤ℚ flow.reached)).
      let same : until ≡ flow.reached = ≤ℚ_antisymm until flow.reached w.1 from in
      by false w.0 ∙ still (label flow v until) (label flow v flow.reached) until flow.reached (number_at tail.slopes v) (ap (label flow v) same) same)
      (lt_ℚ_cases flow.reached until)
    where
      by : (b : Bool) → lt_ℚ flow.reached until ≡ b
          → label (flow_until net flow tail until) v until ≡ label (if b then extended net flow tail until else up_to flow until) v until
      by b e = ap (λ (c : Bool). label (if c then extended net flow tail until else up_to flow until) v until) e
