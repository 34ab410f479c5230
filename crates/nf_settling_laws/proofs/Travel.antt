-- Travel times, if the labels grow at the slopes of a tail.
use Rattle.std.proofs.Common.{◌≡◌, [], ◌∷◌, ap, ◌∙◌}
use Rattle.nf_settling_laws.proofs.Common.{ℚ, 1ℚ, ◌+ℚ◌, ◌-ℚ◌, ◌*ℚ◌, ◌/ℚ◌, ◌≤ℚ◌, max_ℚ, reading_of, ≤ℚ_refl, eq, eq_times, linear_le, linear_eq, number_at}
use Rattle.nf_settling_laws.proofs.Common.{Network, Flow, label, Tail, Cut, IsStaticCut, cut_capacity, IsLeastCapacity, GrowsByLeastCut, travel_time}
use Rattle.nf_forever_def.specs.Extended.{flow_until}

-- Arithmetic: r is the departure reached, and l is the label of the sink there. Its labels in the extended flow at r and d are x and y, and s is
-- its slope.
travelled : (l r d s x y : ℚ) → x ≡ l +ℚ (r -ℚ r) *ℚ s → y ≡ l +ℚ (d -ℚ r) *ℚ s → y -ℚ d ≡ (x -ℚ r) +ℚ (d -ℚ r) *ℚ (s -ℚ 1ℚ)
travelled l r d s x y e f = linear_eq (l ∷ r ∷ d ∷ s ∷ x ∷ y ∷ []) (eq e ∷ eq f ∷ []) (search reading_of) tt tt

slope_1 : (r s a b : ℚ) → b ≡ a +ℚ ((r +ℚ 1ℚ) -ℚ r) *ℚ (s -ℚ 1ℚ) → b ≡ a → s ≡ 1ℚ
slope_1 r s a b e f = linear_eq (r ∷ s ∷ a ∷ b ∷ []) (eq e ∷ eq f ∷ []) (search reading_of) tt tt

stays : (w s a b : ℚ) → b ≡ a +ℚ w *ℚ (s -ℚ 1ℚ) → s ≡ 1ℚ → b ≡ a
stays w s a b e f = linear_eq (w ∷ s ∷ a ∷ b ∷ []) (eq e ∷ eq_times w f ∷ []) (search reading_of) tt tt

later_by_1 : (r : ℚ) → r ≤ℚ r +ℚ 1ℚ
later_by_1 r = linear_le (r ∷ []) [] (search reading_of) tt

module _ (net : Network) (flow : Flow) (tail : Tail) (rate : ℚ)
    (grows : (departure : ℚ) → flow.reached ≤ℚ departure
    → label (flow_until net flow tail departure) net.sink departure ≡ label flow net.sink flow.reached +ℚ (departure -ℚ flow.reached) *ℚ number_at tail.slopes net.sink)
    (by_cut : GrowsByLeastCut net rate tail.slopes) where
  abbrev s : ℚ
  s = number_at tail.slopes net.sink

  travel-grows : (departure : ℚ) → flow.reached ≤ℚ departure
      → travel_time net flow tail departure ≡ travel_time net flow tail flow.reached +ℚ (departure -ℚ flow.reached) *ℚ (s -ℚ 1ℚ)
  travel-grows departure h = travelled (label flow net.sink flow.reached) flow.reached departure s
      (label (flow_until net flow tail flow.reached) net.sink flow.reached) (label (flow_until net flow tail departure) net.sink departure)
      (grows flow.reached (≤ℚ_refl flow.reached)) (grows departure h)

  abbrev Settled : Type 0
  Settled = (departure : ℚ) → flow.reached ≤ℚ departure → travel_time net flow tail departure ≡ travel_time net flow tail flow.reached

  abbrev EachCutCarries : Type 0
  EachCutCarries = (cut : Cut) → IsStaticCut net cut → rate ≤ℚ cut_capacity net cut

  pub each_cut_carries : Settled → EachCutCarries
  each_cut_carries settled = by_cut.settles.0 (slope_1 flow.reached s (travel_time net flow tail flow.reached) (travel_time net flow tail (flow.reached +ℚ 1ℚ))
      (travel-grows (flow.reached +ℚ 1ℚ) (later_by_1 flow.reached)) (settled (flow.reached +ℚ 1ℚ) (later_by_1 flow.reached)))

  pub settled : EachCutCarries → Settled
  settled carries departure h = stays (departure -ℚ flow.reached) s (travel_time net flow tail flow.reached) (travel_time net flow tail departure)
      (travel-grows departure h) (by_cut.settles.1 carries)

  pub travel-least : (least departure : ℚ) → IsLeastCapacity net least → flow.reached ≤ℚ departure
      → travel_time net flow tail departure ≡ travel_time net flow tail flow.reached +ℚ (departure -ℚ flow.reached) *ℚ (max_ℚ 1ℚ (rate /ℚ least) -ℚ 1ℚ)
  travel-least least departure is h = travel-grows departure h
      ∙ ap (λ (z : ℚ). travel_time net flow tail flow.reached +ℚ (departure -ℚ flow.reached) *ℚ (z -ℚ 1ℚ)) (by_cut.slope least is)
