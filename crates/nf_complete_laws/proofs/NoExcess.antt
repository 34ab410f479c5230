-- Without excess at any node, the flow is kept at the nodes between source and sink, and its value is the rate.
use Rattle.std.proofs.Common.{◌≡◌, ◌≢◌, ℕ, ◌<◌, if◌then◌else◌, [], ◌∷◌, ⊎_elim, Bool, true, false, eqb, sym, ap, refl}
use Rattle.nf_complete_laws.proofs.Common.{eqb_tells, ℚ, 0ℚ, ◌+ℚ◌, ◌-ℚ◌, ◌≤ℚ◌, ◌<ℚ◌, reading_of, lt_or_le_ℚ, le, eq, linear_eq, Network, IsNetwork, sum_in}
use Rattle.nf_complete_laws.proofs.Common.{sum_out, out_less_in, demand, all_zero, two_cancel}
use Rattle.nf_thin_laws.proofs.Cuts.{EndsBelow-net}
use Rattle.nf_complete_laws.proofs.Spare.{spare, HasSpare, spare_of_enough}

module _ (net : Network) (rate : ℚ) where
  pub demand-else : (v : ℕ) → v ≢ net.sink → demand net rate v ≡ 0ℚ
  demand-else v other = ⊎_elim
      (λ (w : (eqb v net.sink ≡ true) × (v ≡ net.sink)). absurd (other w.1))
      (λ (w : (eqb v net.sink ≡ false) × (v ≢ net.sink)). ap (λ (b : Bool). if b then rate else 0ℚ) w.0)
      (eqb_tells v net.sink)

  pub demand-sink : demand net rate net.sink ≡ rate
  demand-sink = ⊎_elim
      (λ (w : (eqb net.sink net.sink ≡ true) × (net.sink ≡ net.sink)). ap (λ (b : Bool). if b then rate else 0ℚ) w.0)
      (λ (w : (eqb net.sink net.sink ≡ false) × (net.sink ≢ net.sink)). absurd (w.1 refl))
      (eqb_tells net.sink net.sink)

  module _ (flows : ℕ → ℚ) (good : IsNetwork net)
      (enough : (v : ℕ) → v < net.nodes → v ≢ net.source → sum_out net.links flows v +ℚ demand net rate v ≤ℚ sum_in net.links flows v)
      (level : (v : ℕ) → v < net.nodes → HasSpare net rate flows v → ⊥) where
    balance : (v : ℕ) → v < net.nodes → v ≢ net.source → out_less_in net.links flows v ≡ 0ℚ -ℚ demand net rate v
    balance v h other = no_spare (sum_in net.links flows v) (sum_out net.links flows v) (demand net rate v) (spare_of_enough _ _ _ (enough v h other)) (⊎_elim
        (λ (k : 0ℚ <ℚ spare net rate flows v). absurd (level v h (other, k)))
        (λ (k : spare net rate flows v ≤ℚ 0ℚ). k)
        (lt_or_le_ℚ 0ℚ (spare net rate flows v)))
      where
        no_spare : (i o d : ℚ) → 0ℚ ≤ℚ i -ℚ (o +ℚ d) → i -ℚ (o +ℚ d) ≤ℚ 0ℚ → o -ℚ i ≡ 0ℚ -ℚ d
        no_spare i o d h k = linear_eq (i ∷ o ∷ d ∷ []) (le h ∷ le k ∷ []) (search reading_of) tt tt

    pub inner-kept : (v : ℕ) → v < net.nodes → v ≢ net.source → v ≢ net.sink → out_less_in net.links flows v ≡ 0ℚ
    inner-kept v h s t = none _ _ (balance v h s) (demand-else v t)
      where
        none : (y d : ℚ) → y ≡ 0ℚ -ℚ d → d ≡ 0ℚ → y ≡ 0ℚ
        none y d e f = linear_eq (y ∷ d ∷ []) (eq e ∷ eq f ∷ []) (search reading_of) tt tt

    pub source-kept : out_less_in net.links flows net.source ≡ rate
    source-kept = gives _ _ _ (two_cancel net.nodes net.source net.sink (out_less_in net.links flows) good.source good.sink good.apart inner-kept
        (all_zero net.nodes net.links flows (EndsBelow-net net good)))
        (balance net.sink good.sink (λ e. good.apart (sym e))) demand-sink
      where
        gives : (y z d : ℚ) → y +ℚ z ≡ 0ℚ → z ≡ 0ℚ -ℚ d → d ≡ rate → y ≡ rate
        gives y z d e f g = linear_eq (y ∷ z ∷ d ∷ rate ∷ []) (eq e ∷ eq f ∷ eq g ∷ []) (search reading_of) tt tt
