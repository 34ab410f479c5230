-- The theorems on the growth, from graded flows.
use Rattle.std.proofs.Common.{◌≡◌, [], ◌∷◌, ⊎_elim, sym, subst, ◌∙◌, ◌↔◌}
use Rattle.nf_settling_growth_laws.proofs.Common.{ℚ, 0ℚ, 1ℚ, ◌*ℚ◌, ◌/ℚ◌, ◌≤ℚ◌, ◌<ℚ◌, reading_of, ≤ℚ_of_lt, ≤ℚ_antisymm, lt_or_le_ℚ, ≤ℚ_trans, max_right}
use Rattle.nf_settling_growth_laws.proofs.Common.{max_is_left, le, eq, le_times, linear_le, number_at, Network, IsNetwork, Flow, quotient-times, le_from_times}
use Rattle.nf_settling_growth_laws.proofs.Common.{Cut, IsStaticCut, IsLeastCapacity, last_rate, TailGrows, CutsAreWide, last_rate-not_negative, IsGrowth}
use Rattle.nf_settling_growth_laws.proofs.Common.{BottleneckDecides, OneLinkGrows, GrowthIsByCuts, TailHasGrowth}
use Rattle.nf_phase_def.specs.ToEnd.{Tail}
use Rattle.nf_forever_laws.specs.Growth.{slower_than_sink}
use Rattle.nf_forever_laws.proofs.Cuts.{IsLeastCapacity-one_link, no_cut-one_link, cut_capacity-positive}
use Rattle.nf_forever_laws.proofs.LeastCut.{least_exists}
use Rattle.nf_settling_growth_laws.proofs.Growing.{IsGrowth-level}
use Rattle.nf_settling_growth_laws.proofs.Decides.{grows-at}
use Rattle.nf_settling_graded_laws.proofs.Exists.{graded_flow-exists}

pub bottleneck-decides : BottleneckDecides
bottleneck-decides net good =
    let w = graded_flow-exists net (last_rate net) good (last_rate-not_negative net good) in
    (w.1 net.sink, IsGrowth-level net w.0 w.1 good w.2, grows-at net good w.0 w.1 w.2)

pub one_link-grows : OneLinkGrows
one_link-grows = record {
  bounded = λ transit capacity growth pieces is. is.least capacity (IsLeastCapacity-one_link transit pieces capacity);
  unbounded = λ transit growth pieces is. is.free (no_cut-one_link transit pieces);
}

module _ (net : Network) (growth : ℚ) (good : IsNetwork net) (is : IsGrowth net growth) where
  module _ (least : ℚ) (of : IsLeastCapacity net least) where
    positive : 0ℚ <ℚ least
    positive = subst (λ (z : ℚ). 0ℚ <ℚ z) of.attained.2 (cut_capacity-positive net of.attained.0 of.attained.1 good)

    wide_then : growth ≡ 1ℚ → CutsAreWide net
    wide_then e cut c = ≤ℚ_trans _ _ _
        (within (last_rate net) (last_rate net /ℚ least) least (quotient-times (last_rate net) least positive)
        (subst (λ (z : ℚ). last_rate net /ℚ least ≤ℚ z) (sym (is.least least of) ∙ e) (max_right 1ℚ (last_rate net /ℚ least))) (≤ℚ_of_lt _ _ positive))
        (of.bound cut c)
      where
        within : (u q c : ℚ) → q *ℚ c ≡ u → q ≤ℚ 1ℚ → 0ℚ ≤ℚ c → u ≤ℚ c
        within u q c e h n = linear_le (u ∷ q ∷ c ∷ []) (eq e ∷ le_times n h ∷ []) (search reading_of) tt

    one_then : CutsAreWide net → growth ≡ 1ℚ
    one_then wide = is.least least of ∙ max_is_left 1ℚ (last_rate net /ℚ least)
        (le_from_times least (last_rate net /ℚ least) 1ℚ positive
        (below (last_rate net) (last_rate net /ℚ least) least (quotient-times (last_rate net) least positive)
        (subst (λ (z : ℚ). last_rate net ≤ℚ z) of.attained.2 (wide of.attained.0 of.attained.1))))
      where
        below : (u q c : ℚ) → q *ℚ c ≡ u → u ≤ℚ c → c *ℚ q ≤ℚ c *ℚ 1ℚ
        below u q c e h = linear_le (u ∷ q ∷ c ∷ []) (eq e ∷ le h ∷ []) (search reading_of) tt

  growth-one : (growth ≡ 1ℚ) ↔ CutsAreWide net
  growth-one = ⊎_elim
      (λ (w : (least : ℚ) × IsLeastCapacity net least). (wide_then w.0 w.1, one_then w.0 w.1))
      (λ (none : (cut : Cut) → IsStaticCut net cut → ⊥). (λ _ cut c. absurd (none cut c), λ _. is.free none))
      (least_exists net good)

one_growth : (net : Network) (growth other : ℚ) → IsNetwork net → IsGrowth net growth → IsGrowth net other → growth ≡ other
one_growth net growth other good is is_other = ⊎_elim
    (λ (w : (least : ℚ) × IsLeastCapacity net least). is.least w.0 w.1 ∙ sym (is_other.least w.0 w.1))
    (λ (none : (cut : Cut) → IsStaticCut net cut → ⊥). is.free none ∙ sym (is_other.free none))
    (least_exists net good)

pub growth-is_by_cuts : GrowthIsByCuts
growth-is_by_cuts = record { only = one_growth; wide = λ net growth good is. growth-one net growth good is }

-- ---- tails of runs
module _ (net : Network) (good : IsNetwork net) (flow : Flow) (tail : Tail) (grows : TailGrows net flow tail) where
  tail_one : ((cut : Cut) → IsStaticCut net cut → ⊥) → number_at tail.slopes net.sink ≡ 1ℚ
  tail_one none = ⊎_elim
      (λ (h : 1ℚ <ℚ number_at tail.slopes net.sink). absurd (none (slower_than_sink net tail.slopes) (grows.cuts.bottleneck h).0))
      (λ (h : number_at tail.slopes net.sink ≤ℚ 1ℚ). ≤ℚ_antisymm _ _ h (grows.cuts.keeps_up net.sink good.sink))
      (lt_or_le_ℚ 1ℚ (number_at tail.slopes net.sink))

  tail_growth : (growth : ℚ) → IsGrowth net growth → number_at tail.slopes net.sink ≡ growth
  tail_growth growth is = ⊎_elim
      (λ (w : (least : ℚ) × IsLeastCapacity net least). grows.least_cut.slope w.0 w.1 ∙ sym (is.least w.0 w.1))
      (λ (none : (cut : Cut) → IsStaticCut net cut → ⊥). tail_one none ∙ sym (is.free none))
      (least_exists net good)

pub tail-has_growth : TailHasGrowth
tail-has_growth net flow tail growth good grows is = tail_growth net good flow tail grows growth is
