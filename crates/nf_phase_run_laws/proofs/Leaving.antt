-- The cumulative outflow of a link never falls.
use Rattle.std.proofs.Common.{◌≡◌, [], ◌∷◌, ⊎_elim, Option, Some, None, refl, sym, subst}
use Rattle.nf_phase_run_laws.proofs.Common.{ℚ, 0ℚ, ◌+ℚ◌, ◌-ℚ◌, ◌*ℚ◌, ◌≤ℚ◌, ◌<ℚ◌, reading_of, ≤ℚ_of_lt, ≤ℚ_of_same, lt_or_le_ℚ, less_nn, ≤ℚ_refl, ≤ℚ_trans}
use Rattle.nf_phase_run_laws.proofs.Common.{le, eq, le_times, linear_le, less_le, NeverFalls, IsLeast, IsOutflow}
use Rattle.nf_model_laws.specs.Capacity.{IsPositive}

-- ---- over plain numbers
served : (a c u t : ℚ) → 0ℚ ≤ℚ a → 0ℚ <ℚ c → t ≤ℚ u → 0ℚ ≤ℚ a +ℚ c *ℚ (u -ℚ t)
served a c u t h k l = linear_le (a ∷ c ∷ u ∷ t ∷ []) (le h ∷ le_times (≤ℚ_of_lt _ _ k) l ∷ []) (search reading_of) tt

-- served since the same time, up to an earlier one and a later one
served_longer : (y z a c u v t : ℚ) → y ≤ℚ a +ℚ c *ℚ (u -ℚ t) → a +ℚ c *ℚ (v -ℚ t) ≡ z → u ≤ℚ v → 0ℚ <ℚ c → y ≤ℚ z
served_longer y z a c u v t h e l k = linear_le (y ∷ z ∷ a ∷ c ∷ u ∷ v ∷ t ∷ []) (le h ∷ eq e ∷ le_times (≤ℚ_of_lt _ _ k) l ∷ []) (search reading_of) tt

-- a has entered by u, and b by the later time t
served_later : (y z a b c u v t : ℚ) → y ≤ℚ a +ℚ c *ℚ (u -ℚ u) → a ≤ℚ b → b +ℚ c *ℚ (v -ℚ t) ≡ z → t ≤ℚ v → 0ℚ <ℚ c → y ≤ℚ z
served_later y z a b c u v t h i e l k = linear_le (y ∷ z ∷ a ∷ b ∷ c ∷ u ∷ v ∷ t ∷ []) (le h ∷ le i ∷ eq e ∷ le_times (≤ℚ_of_lt _ _ k) l ∷ []) (search reading_of) tt

module _ (transit : ℚ) (amount : ℚ → ℚ) (rises : NeverFalls amount) (starts : amount 0ℚ ≡ 0ℚ) where
  amount_nn : (t : ℚ) → 0ℚ ≤ℚ t → 0ℚ ≤ℚ amount t
  amount_nn t h = subst (λ (z : ℚ). z ≤ℚ amount t) starts (rises 0ℚ t (≤ℚ_refl 0ℚ) h)

  -- ---- it is not negative
  late_nn : (capacity : Option ℚ) (time out : ℚ) → IsPositive capacity → transit ≤ℚ time → IsOutflow transit capacity amount time out → 0ℚ ≤ℚ out
  late_nn None time out c l o = subst (λ (z : ℚ). 0ℚ ≤ℚ z) (sym (o.unbounded l refl)) (amount_nn (time -ℚ transit) (less_nn transit time l))
  late_nn (Some rate) time out c l o =
      let g = o.bounded rate l refl in
      subst (λ (z : ℚ). 0ℚ ≤ℚ z) g.taken.2 (served (amount g.taken.0) rate (time -ℚ transit) g.taken.0 (amount_nn g.taken.0 g.taken.1.0) (c rate refl) g.taken.1.1)

  out_nn : (capacity : Option ℚ) (time out : ℚ) → IsPositive capacity → IsOutflow transit capacity amount time out → 0ℚ ≤ℚ out
  out_nn capacity time out c o = ⊎_elim
      (λ (l : time <ℚ transit). ≤ℚ_of_same 0ℚ out (sym (o.early l)))
      (λ (l : transit ≤ℚ time). late_nn capacity time out c l o)
      (lt_or_le_ℚ time transit)

  -- ---- and later more has left
  late_rises : (capacity : Option ℚ) (s t y z : ℚ) → IsPositive capacity → transit ≤ℚ s → s ≤ℚ t → IsOutflow transit capacity amount s y → IsOutflow transit capacity amount t z → y ≤ℚ z
  late_rises None s t y z c l h o p =
      subst (λ (x : ℚ). x ≤ℚ z) (sym (o.unbounded l refl)) (subst (λ (x : ℚ). amount (s -ℚ transit) ≤ℚ x) (sym (p.unbounded (≤ℚ_trans _ _ _ l h) refl))
      (rises (s -ℚ transit) (t -ℚ transit) (less_nn transit s l) (less_le s t transit h)))
  late_rises (Some rate) s t y z c l h o p = ⊎_elim
      (λ (m : s -ℚ transit <ℚ k.taken.0). served_later y z (amount (s -ℚ transit)) (amount k.taken.0) rate (s -ℚ transit) (t -ℚ transit) k.taken.0
      (g.bound (s -ℚ transit) (less_nn transit s l, ≤ℚ_refl (s -ℚ transit))) (rises (s -ℚ transit) k.taken.0 (less_nn transit s l) (≤ℚ_of_lt _ _ m)) k.taken.2 k.taken.1.1 (c rate refl))
      (λ (m : k.taken.0 ≤ℚ s -ℚ transit). served_longer y z (amount k.taken.0) rate (s -ℚ transit) (t -ℚ transit) k.taken.0
      (g.bound k.taken.0 (k.taken.1.0, m)) k.taken.2 (less_le s t transit h) (c rate refl))
      (lt_or_le_ℚ (s -ℚ transit) k.taken.0)
    where
      g : IsLeast (λ since. amount since +ℚ rate *ℚ (s -ℚ transit -ℚ since)) 0ℚ (s -ℚ transit) y
      g = o.bounded rate l refl

      k : IsLeast (λ since. amount since +ℚ rate *ℚ (t -ℚ transit -ℚ since)) 0ℚ (t -ℚ transit) z
      k = p.bounded rate (≤ℚ_trans _ _ _ l h) refl

  pub IsOutflow-rises : (capacity : Option ℚ) (s t y z : ℚ) → IsPositive capacity → s ≤ℚ t → IsOutflow transit capacity amount s y → IsOutflow transit capacity amount t z → y ≤ℚ z
  IsOutflow-rises capacity s t y z c h o p = ⊎_elim
      (λ (l : s <ℚ transit). subst (λ (x : ℚ). x ≤ℚ z) (sym (o.early l)) (out_nn capacity t z c p))
      (λ (l : transit ≤ℚ s). late_rises capacity s t y z c l h o p)
      (lt_or_le_ℚ s transit)
