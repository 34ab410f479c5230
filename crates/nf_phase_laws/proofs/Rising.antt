-- The inflow of a link over one phase never falls.
use Rattle.std.proofs.Common.{◌≡◌, [], ◌∷◌, ⊎_elim, sym, subst, ◌∙◌}
use Rattle.nf_phase_laws.proofs.Common.{ℚ, 0ℚ, ◌+ℚ◌, ◌-ℚ◌, ◌*ℚ◌, ◌≤ℚ◌, ◌<ℚ◌, reading_of, ≤ℚ_of_same, ≤ℚ_of_lt, ≤ℚ_antisymm, lt_or_le_ℚ, le, eq, le_times}
use Rattle.nf_phase_laws.proofs.Common.{eq_times, linear_le, linear_eq, Within, NeverFalls, IsAffine, le_from_times, ≤ℚ_refl, ≤ℚ_trans}

-- Plain numbers: from a on at the rate r for the time l d, where r l = x.
rate_nn : (r l x : ℚ) → 0ℚ <ℚ l → r *ℚ l ≡ x → 0ℚ ≤ℚ x → 0ℚ ≤ℚ r
rate_nn r l x h e n = le_from_times l 0ℚ r h (linear_le (r ∷ l ∷ x ∷ []) (eq e ∷ le n ∷ []) (search reading_of) tt)

piece_rises : (y z v a s t l d r x : ℚ) → y ≡ v +ℚ r *ℚ (s -ℚ a) → z ≡ v +ℚ r *ℚ (t -ℚ a) → a ≤ℚ s → s ≤ℚ t → t ≤ℚ a +ℚ l *ℚ d → 0ℚ ≤ℚ l → 0ℚ ≤ℚ x → r *ℚ l ≡ x → y ≤ℚ z
piece_rises y z v a s t l d r x e f i j k n m g = ⊎_elim
    (λ (h : 0ℚ <ℚ l). let p : 0ℚ ≤ℚ r = rate_nn r l x h g m in linear_le (y ∷ z ∷ v ∷ a ∷ s ∷ t ∷ r ∷ []) (eq e ∷ eq f ∷ le_times p j ∷ []) (search reading_of) tt)
    (λ (h : l ≤ℚ 0ℚ).
    let w : l ≡ 0ℚ = ≤ℚ_antisymm _ _ h n in
    let u : s ≡ t = linear_eq (a ∷ s ∷ t ∷ l ∷ d ∷ []) (le i ∷ le j ∷ le k ∷ eq_times d w ∷ []) (search reading_of) tt tt in
    linear_le (y ∷ z ∷ v ∷ a ∷ s ∷ t ∷ r ∷ []) (eq e ∷ eq f ∷ eq_times r u ∷ []) (search reading_of) tt)
    (lt_or_le_ℚ 0ℚ l)

pub le_along : (a b c d : ℚ) → a ≡ b → c ≡ d → b ≤ℚ d → a ≤ℚ c
le_along a b c d e f h = linear_le (a ∷ b ∷ c ∷ d ∷ []) (eq e ∷ eq f ∷ le h ∷ []) (search reading_of) tt

module _ (f g : ℚ → ℚ) (a l d r x : ℚ) (begins : 0ℚ ≤ℚ a) (slope_nn : 0ℚ ≤ℚ l) (flow_nn : 0ℚ ≤ℚ x) (time_nn : 0ℚ ≤ℚ d) (rises : NeverFalls f) (same : (t : ℚ) → Within 0ℚ a t → g t ≡ f t)
    (rate_is : r *ℚ l ≡ x) (line : IsAffine g a (a +ℚ l *ℚ d) r) (ends : (t : ℚ) → a +ℚ l *ℚ d ≤ℚ t → g t ≡ g (a +ℚ l *ℚ d)) where
  on_piece : (s t : ℚ) → a ≤ℚ s → s ≤ℚ t → t ≤ℚ a +ℚ l *ℚ d → g s ≤ℚ g t
  on_piece s t h k i = piece_rises (g s) (g t) (g a) a s t l d r x (line.line s h (≤ℚ_trans _ _ _ k i)) (line.line t (≤ℚ_trans _ _ _ h k) i) h k i slope_nn flow_nn rate_is

  from_piece : (s t : ℚ) → a ≤ℚ s → s ≤ℚ t → g s ≤ℚ g t
  from_piece s t h k = ⊎_elim
      (λ (i : t <ℚ a +ℚ l *ℚ d). on_piece s t h k (≤ℚ_of_lt _ _ i))
      (λ (i : a +ℚ l *ℚ d ≤ℚ t). ⊎_elim
      (λ (j : s <ℚ a +ℚ l *ℚ d). subst (λ (y : ℚ). g s ≤ℚ y) (sym (ends t i)) (on_piece s (a +ℚ l *ℚ d) h (≤ℚ_of_lt _ _ j) (≤ℚ_refl _)))
      (λ (j : a +ℚ l *ℚ d ≤ℚ s). ≤ℚ_of_same _ _ (ends s j ∙ sym (ends t i)))
      (lt_or_le_ℚ s (a +ℚ l *ℚ d)))
      (lt_or_le_ℚ t (a +ℚ l *ℚ d))

  up_to : (s t : ℚ) → 0ℚ ≤ℚ s → s ≤ℚ t → t ≤ℚ a → g s ≤ℚ g t
  up_to s t h k i = le_along _ _ _ _ (same s (h, ≤ℚ_trans _ _ _ k i)) (same t (≤ℚ_trans _ _ _ h k, i)) (rises s t h k)

  pub NeverFalls-goes_on : NeverFalls g
  NeverFalls-goes_on s t h k = ⊎_elim
      (λ (i : t <ℚ a). up_to s t h k (≤ℚ_of_lt _ _ i))
      (λ (i : a ≤ℚ t). ⊎_elim
      (λ (j : s <ℚ a). ≤ℚ_trans _ _ _ (up_to s a h (≤ℚ_of_lt _ _ j) (≤ℚ_refl a)) (from_piece a t (≤ℚ_refl a) i))
      (λ (j : a ≤ℚ s). from_piece s t j k)
      (lt_or_le_ℚ s a))
      (lt_or_le_ℚ t a)
