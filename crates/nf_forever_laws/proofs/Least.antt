-- The slope of the sink by the least capacity of a static cut.
use Rattle.std.proofs.Common.{◌≡◌, List, [], ◌∷◌, ⊎_elim, sym, subst, refl, ◌∙◌}
use Rattle.nf_forever_laws.proofs.Common.{ℚ, 0ℚ, 1ℚ, ◌-ℚ◌, ◌*ℚ◌, ◌/ℚ◌, ◌≤ℚ◌, ◌<ℚ◌, max_ℚ, reading_of, ≤ℚ_of_lt, ≤ℚ_antisymm, lt_or_le_ℚ, le, lt, eq, le_times}
use Rattle.nf_forever_laws.proofs.Common.{eq_times, linear_le, linear_lt, linear_eq, linear_false, number_at, Network, IsNetwork, Cut, IsStaticCut}
use Rattle.nf_forever_laws.proofs.Common.{cut_capacity, IsLeastCapacity, slower_than_sink, GrowsByCuts, GrowsByLeastCut}
use Rattle.nf_rational_laws.proofs.Extremes.{max_is_left, max_is_right}
use Rattle.nf_model_laws.proofs.Affine.{quotient-times, ps-times_gap, le_from_times, same_from_times}
use Rattle.nf_forever_laws.proofs.Cuts.{cut_capacity-positive}

-- Arithmetic: r is the supply rate, s is the slope of the sink, and c and d are capacities of cuts.
let_at_1 : (r s c : ℚ) → s ≡ 1ℚ → r ≤ℚ s *ℚ c → r ≤ℚ c
let_at_1 r s c e h = linear_le (r ∷ s ∷ c ∷ []) (eq_times c e ∷ le h ∷ []) (search reading_of) tt

too_small : (r s c : ℚ) → 0ℚ <ℚ c *ℚ (s -ℚ 1ℚ) → r ≡ s *ℚ c → r ≤ℚ c → ⊥
too_small r s c h e k = linear_false (r ∷ s ∷ c ∷ []) (lt h ∷ eq e ∷ le k ∷ []) (search reading_of) tt

no_less : (r s c d : ℚ) → r ≡ s *ℚ c → r ≤ℚ s *ℚ d → s *ℚ c ≤ℚ s *ℚ d
no_less r s c d e h = linear_le (r ∷ s ∷ c ∷ d ∷ []) (eq e ∷ le h ∷ []) (search reading_of) tt

-- Here d is the least capacity, and q is the supply rate over d.
same_times : (r s c d q : ℚ) → 0ℚ ≤ℚ s → r ≡ s *ℚ c → d ≤ℚ c → r ≤ℚ s *ℚ d → q *ℚ d ≡ r → d *ℚ q ≡ d *ℚ s
same_times r s c d q n e h k f = linear_eq (r ∷ s ∷ c ∷ d ∷ q ∷ []) (eq e ∷ le_times n h ∷ le k ∷ eq f ∷ []) (search reading_of) tt tt

at_most_1 : (r s d q : ℚ) → s ≡ 1ℚ → r ≤ℚ s *ℚ d → q *ℚ d ≡ r → d *ℚ q ≤ℚ d *ℚ 1ℚ
at_most_1 r s d q e h f = linear_le (r ∷ s ∷ d ∷ q ∷ []) (eq_times d e ∷ le h ∷ eq f ∷ []) (search reading_of) tt

above_0 : (s : ℚ) → 1ℚ <ℚ s → 0ℚ <ℚ s
above_0 s h = linear_lt (s ∷ []) (lt h ∷ []) (search reading_of) tt

module _ (net : Network) (rate : ℚ) (slopes : List ℚ) (good : IsNetwork net) (grows : GrowsByCuts net rate slopes) where
  abbrev s : ℚ
  s = number_at slopes net.sink

  abbrev slower : Cut
  slower = slower_than_sink net slopes

  is_1 : s ≤ℚ 1ℚ → s ≡ 1ℚ
  is_1 h = ≤ℚ_antisymm s 1ℚ h (grows.keeps_up net.sink good.sink)

  abbrev EachCutCarries : Type 0
  EachCutCarries = (cut : Cut) → IsStaticCut net cut → rate ≤ℚ cut_capacity net cut

  each_cut_carries : s ≡ 1ℚ → EachCutCarries
  each_cut_carries e cut is = let_at_1 rate s (cut_capacity net cut) e (grows.each_cut cut is)

  settles : EachCutCarries → s ≡ 1ℚ
  settles all = ⊎_elim
      (λ (h : 1ℚ <ℚ s). let b = grows.bottleneck h in
      absurd (too_small rate s (cut_capacity net slower) (ps-times_gap (cut_capacity net slower) 1ℚ s (cut_capacity-positive net slower b.0 good) h) b.1 (all slower b.0)))
      is_1
      (lt_or_le_ℚ 1ℚ s)

  least : 1ℚ <ℚ s → IsLeastCapacity net (cut_capacity net slower)
  least h = let b = grows.bottleneck h in record {
    attained = (slower, b.0, refl);
    bound = λ cut is. le_from_times s (cut_capacity net slower) (cut_capacity net cut) (above_0 s h)
        (no_less rate s (cut_capacity net slower) (cut_capacity net cut) b.1 (grows.each_cut cut is));
  }

  module _ (c : ℚ) (is : IsLeastCapacity net c) where
    positive : 0ℚ <ℚ c
    positive = subst (λ (z : ℚ). 0ℚ <ℚ z) is.attained.2 (cut_capacity-positive net is.attained.0 is.attained.1 good)

    by_least : rate ≤ℚ s *ℚ c
    by_least = subst (λ (z : ℚ). rate ≤ℚ s *ℚ z) is.attained.2 (grows.each_cut is.attained.0 is.attained.1)

    quotient : rate /ℚ c *ℚ c ≡ rate
    quotient = quotient-times rate c positive

    above : 1ℚ <ℚ s → s ≡ max_ℚ 1ℚ (rate /ℚ c)
    above h =
        let b = grows.bottleneck h in
        let q : rate /ℚ c ≡ s = same_from_times c (rate /ℚ c) s positive
        (same_times rate s (cut_capacity net slower) c (rate /ℚ c) (≤ℚ_of_lt _ _ (above_0 s h)) b.1 (is.bound slower b.0) by_least quotient) in
        sym q ∙ sym (max_is_right 1ℚ (rate /ℚ c) (subst (λ (z : ℚ). 1ℚ ≤ℚ z) (sym q) (≤ℚ_of_lt _ _ h)))

    at_1 : s ≤ℚ 1ℚ → s ≡ max_ℚ 1ℚ (rate /ℚ c)
    at_1 h = is_1 h ∙ sym (max_is_left 1ℚ (rate /ℚ c) (le_from_times c (rate /ℚ c) 1ℚ positive (at_most_1 rate s c (rate /ℚ c) (is_1 h) by_least quotient)))

    slope : s ≡ max_ℚ 1ℚ (rate /ℚ c)
    slope = ⊎_elim above at_1 (lt_or_le_ℚ 1ℚ s)

  pub GrowsByLeastCut-cuts : GrowsByLeastCut net rate slopes
  GrowsByLeastCut-cuts = record { settles = (each_cut_carries, settles); bottleneck = least; slope = slope }
