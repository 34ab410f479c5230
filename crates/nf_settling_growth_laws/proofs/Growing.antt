-- The levels of a graded flow grow by the cuts. So the level of the sink is the growth of the network.
use Rattle.std.proofs.Common.{◌≡◌, ℕ, ◌<◌, List, ⊎_elim, sym, subst, ◌∙◌}
use Rattle.nf_settling_growth_laws.proofs.Common.{ℚ, 1ℚ, ◌*ℚ◌, ◌/ℚ◌, ◌≤ℚ◌, ◌<ℚ◌, max_ℚ, ≤ℚ_antisymm, lt_or_le_ℚ, number_at, Network, IsNetwork, Cut}
use Rattle.nf_settling_growth_laws.proofs.Common.{IsStaticCut, cut_capacity, IsLeastCapacity, last_rate, IsGraded, IsGrowth}
use Rattle.nf_complete_laws.specs.Oversupply.{Fits}
use Rattle.nf_complete_laws.proofs.Numbers.{numbers, number_at-numbers}
use Rattle.nf_forever_laws.specs.Growth.{slower_than_sink, GrowsByCuts}
use Rattle.nf_forever_laws.proofs.Fitting.{FitsSlopes, GrowsByCuts-fit}
use Rattle.nf_forever_laws.proofs.Least.{GrowsByLeastCut-cuts}

module _ (net : Network) (good : IsNetwork net) (rate : ℚ) (flows levels : ℕ → ℚ) (graded : IsGraded net rate flows levels) where
  abbrev pub listed : List ℚ
  listed = numbers net.nodes levels

  listed-is : (v : ℕ) → v < net.nodes → number_at listed v ≡ levels v
  listed-is v h = number_at-numbers net.nodes levels v h

  FitsSlopes-listed : FitsSlopes net rate flows listed
  FitsSlopes-listed = record {
    starts = listed-is net.source good.source ∙ graded.starts;
    keeps_up = λ v h. subst (λ (z : ℚ). 1ℚ ≤ℚ z) (sym (listed-is v h)) (graded.keeps_up v h);
    fits = λ e link p. subst (λ (z : ℚ). Fits link.capacity (flows e) z (number_at listed link.head)) (sym (listed-is link.tail (good.tails e link p)))
        (subst (λ (z : ℚ). Fits link.capacity (flows e) (levels link.tail) z) (sym (listed-is link.head (good.heads e link p))) (graded.fits e link p));
    source = graded.source;
    inner = graded.inner;
  }

  grows : GrowsByCuts net rate listed
  grows = GrowsByCuts-fit net good rate flows listed FitsSlopes-listed

  pub level-least : (least : ℚ) → IsLeastCapacity net least → levels net.sink ≡ max_ℚ 1ℚ (rate /ℚ least)
  level-least least is = sym (listed-is net.sink good.sink) ∙ (GrowsByLeastCut-cuts net rate listed good grows).slope least is

  -- A level of the sink above 1 comes from a static cut.
  pub level-cut : 1ℚ <ℚ levels net.sink → (cut : Cut) × IsStaticCut net cut × (rate ≡ levels net.sink *ℚ cut_capacity net cut)
  level-cut h =
      let w : IsStaticCut net (slower_than_sink net listed) × (rate ≡ number_at listed net.sink *ℚ cut_capacity net (slower_than_sink net listed))
      = grows.bottleneck (subst (λ (z : ℚ). 1ℚ <ℚ z) (sym (listed-is net.sink good.sink)) h) in
      (slower_than_sink net listed, w.0, subst (λ (z : ℚ). rate ≡ z *ℚ cut_capacity net (slower_than_sink net listed)) (listed-is net.sink good.sink) w.1)

  pub level-one : (1ℚ <ℚ levels net.sink → ⊥) → levels net.sink ≡ 1ℚ
  level-one not = ⊎_elim
      (λ (h : 1ℚ <ℚ levels net.sink). absurd (not h))
      (λ (h : levels net.sink ≤ℚ 1ℚ). ≤ℚ_antisymm _ _ h (graded.keeps_up net.sink good.sink))
      (lt_or_le_ℚ 1ℚ (levels net.sink))

pub IsGrowth-level : (net : Network) (flows levels : ℕ → ℚ) → IsNetwork net → IsGraded net (last_rate net) flows levels → IsGrowth net (levels net.sink)
IsGrowth-level net flows levels good graded = record {
  least = level-least net good (last_rate net) flows levels graded;
  free = λ none. level-one net good (last_rate net) flows levels graded
      (λ h. let w : (cut : Cut) × IsStaticCut net cut × (last_rate net ≡ levels net.sink *ℚ cut_capacity net cut) = level-cut net good
      (last_rate net) flows levels graded h in none w.0 w.1);
}
