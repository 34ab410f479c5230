-- What a static flow carries up a potential.
use Rattle.std.proofs.Common.{◌≡◌, ◌≢◌, ℕ, ◌<◌, [], ◌∷◌, ⊎_elim, true, false, eqb, sym, ap, subst, ◌∙◌}
use Rattle.std.proofs.lemmas.Bool.Decides.{eqb_tells}
use Rattle.nf_settling_laws.proofs.Common.{ℚ, 0ℚ, ◌-ℚ◌, ◌*ℚ◌, reading_of, eq_times, linear_eq, times_second_zero, Network, IsNetwork, link_sum}
use Rattle.nf_model_laws.proofs.Potential.{sum_to-same, sum_to-only, only_at, only_at-here, only_at-else, carried-is, out_less_in}
use Rattle.nf_thin_laws.proofs.Cuts.{EndsBelow-net, carried-shift}
use Rattle.nf_settling_laws.proofs.Terms.{rise, link_sum-carried}

module _ (net : Network) (good : IsNetwork net) (rate : ℚ) (flows : ℕ → ℚ) (source : out_less_in net.links flows net.source ≡ rate)
    (inner : (v : ℕ) → v < net.nodes → v ≢ net.source → v ≢ net.sink → out_less_in net.links flows v ≡ 0ℚ) (w : ℕ → ℚ) where
  -- The potential less its value at the sink, and what it makes of the flow out of the source.
  abbrev shifted : ℕ → ℚ
  shifted v = w v -ℚ w net.sink

  abbrev sent : ℚ
  sent = shifted net.source *ℚ rate

  at_node : (v : ℕ) → v < net.nodes → shifted v *ℚ out_less_in net.links flows v ≡ only_at net.source sent v
  at_node v h = ⊎_elim
      (λ (s : (eqb v net.source ≡ true) × (v ≡ net.source)).
      subst (λ (k : ℕ). shifted k *ℚ out_less_in net.links flows k ≡ only_at net.source sent k) (sym s.1)
      (ap (λ (y : ℚ). shifted net.source *ℚ y) source ∙ sym (only_at-here net.source sent)))
      (λ (s : (eqb v net.source ≡ false) × (v ≢ net.source)). elsewhere s.1 ∙ sym (only_at-else net.source sent v (λ e. s.1 (sym e))))
      (eqb_tells v net.source)
    where
      at_sink : (a b y : ℚ) → a ≡ b → (a -ℚ b) *ℚ y ≡ 0ℚ
      at_sink a b y e = linear_eq (a ∷ b ∷ y ∷ []) (eq_times y e ∷ []) (search reading_of) tt tt

      elsewhere : v ≢ net.source → shifted v *ℚ out_less_in net.links flows v ≡ 0ℚ
      elsewhere other = ⊎_elim
          (λ (t : (eqb v net.sink ≡ true) × (v ≡ net.sink)). at_sink _ _ _ (ap w t.1))
          (λ (t : (eqb v net.sink ≡ false) × (v ≢ net.sink)). times_second_zero _ _ (inner v h other t.1))
          (eqb_tells v net.sink)

  -- It is the value of the flow times the rise of the potential from source to sink.
  pub value_carried : link_sum net.links (λ e link. flows e *ℚ rise w link) ≡ rate *ℚ (w net.sink -ℚ w net.source)
  value_carried = link_sum-carried w net.links flows ∙ ap (λ (y : ℚ). 0ℚ -ℚ y) (sym (carried-shift w (w net.sink) net.links flows)
      ∙ carried-is net.nodes shifted net.links flows (EndsBelow-net net good)
      ∙ sum_to-same net.nodes (λ v. shifted v *ℚ out_less_in net.links flows v) (only_at net.source sent) at_node
      ∙ sum_to-only net.nodes net.source sent good.source) ∙ turned (w net.source) (w net.sink)
    where
      turned : (a b : ℚ) → 0ℚ -ℚ (a -ℚ b) *ℚ rate ≡ rate *ℚ (b -ℚ a)
      turned a b = linear_eq (a ∷ b ∷ rate ∷ []) [] (search reading_of) tt tt
