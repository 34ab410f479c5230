-- One link of a thin flow, compared with the levels p and q of its ends. Its slopes are s = p y and t = q z. Some amount bears the flow along the
-- numbers y and z. Its rise is at least the change of the queue, less the part of the link in the rise of the levels.
use Rattle.std.proofs.Common.{◌≡◌, [], ◌∷◌, inl, inr, ⊎_elim, Bool, true, false, if◌then◌else◌, sym, ap, subst, refl, ◌∙◌}
use Rattle.nf_settling_growth_laws.proofs.Common.{ℚ, 0ℚ, 1ℚ, ◌+ℚ◌, ◌-ℚ◌, ◌*ℚ◌, ◌≤ℚ◌, ◌<ℚ◌, lt_ℚ, max_ℚ, reading_of, ≤ℚ_of_lt, ≤ℚ_of_same, ≤ℚ_antisymm}
use Rattle.nf_settling_growth_laws.proofs.Common.{lt_or_le_ℚ, nn_times, test_of_less, test_of_not_less, max_left, max_right, le, eq, le_times, eq_times}
use Rattle.nf_settling_growth_laws.proofs.Common.{linear_le, le_from_times, Kind}
use Rattle.nf_settling_laws.proofs.Levels.{Bears}

-- n is the filled amount, x the flow and c the capacity.
abbrev pub raised : ℚ → ℚ → ℚ → ℚ → ℚ → ℚ
raised n x c p q = if lt_ℚ 0ℚ n then n *ℚ q else (if lt_ℚ p q then (if lt_ℚ 0ℚ x then c *ℚ q else 0ℚ) else 0ℚ)

abbrev pub steepness : ℚ → ℚ → ℚ → ℚ
steepness c p q = c *ℚ max_ℚ 0ℚ (q -ℚ p)

pub record Raises (n c p q x s t y z m : ℚ) : Type 0 where
  pub bears : Bears m x y z
  pub pays : n *ℚ (t -ℚ s) ≤ℚ m *ℚ (z -ℚ y) +ℚ 1ℚ *ℚ (steepness c p q *ℚ y)

raised-by : (a b d : Bool) (n x c p q : ℚ) → lt_ℚ 0ℚ n ≡ a → lt_ℚ p q ≡ b → lt_ℚ 0ℚ x ≡ d
    → raised n x c p q ≡ (if a then n *ℚ q else (if b then (if d then c *ℚ q else 0ℚ) else 0ℚ))
raised-by a b d n x c p q e f g = cc

raised-full : (n x c p q : ℚ) → 0ℚ <ℚ n → raised n x c p q ≡ n *ℚ q
raised-full n x c p q h = ap (λ (k : Bool). if k then n *ℚ q else (if lt_ℚ p q then (if lt_ℚ 0ℚ x then c *ℚ q else 0ℚ) else 0ℚ)) (test_of_less 0ℚ n h)

raised-steep : (n x c p q : ℚ) → n ≡ 0ℚ → p <ℚ q → 0ℚ <ℚ x → raised n x c p q ≡ c *ℚ q
raised-steep n x c p q e h k = raised-by false true true n x c p q (test_of_not_less 0ℚ n (≤ℚ_of_same _ _ e)) (test_of_less p q h) (test_of_less 0ℚ x k)

raised-empty : (n x c p q : ℚ) → n ≡ 0ℚ → x ≡ 0ℚ → raised n x c p q ≡ 0ℚ
raised-empty n x c p q e f = by (lt_ℚ p q) refl
  where
    by : (b : Bool) → lt_ℚ p q ≡ b → raised n x c p q ≡ 0ℚ
    by true g = raised-by false true false n x c p q (test_of_not_less 0ℚ n (≤ℚ_of_same _ _ e)) g (test_of_not_less 0ℚ x (≤ℚ_of_same _ _ f))
    by false g = raised-by false false false n x c p q (test_of_not_less 0ℚ n (≤ℚ_of_same _ _ e)) g (test_of_not_less 0ℚ x (≤ℚ_of_same _ _ f))

raised-level : (n x c p q : ℚ) → n ≡ 0ℚ → q ≤ℚ p → raised n x c p q ≡ 0ℚ
raised-level n x c p q e h = ap (λ (k : Bool). if k then n *ℚ q else (if lt_ℚ p q then (if lt_ℚ 0ℚ x then c *ℚ q else 0ℚ) else 0ℚ)) (test_of_not_less 0ℚ n
    (≤ℚ_of_same _ _ e))
    ∙ ap (λ (k : Bool). if k then (if lt_ℚ 0ℚ x then c *ℚ q else 0ℚ) else 0ℚ) (test_of_not_less p q h)

module _ (n c p q x s t y z : ℚ) (n_nn : 0ℚ ≤ℚ n) (n_le : n ≤ℚ c) (p_ps : 0ℚ <ℚ p) (q_ps : 0ℚ <ℚ q) (x_nn : 0ℚ ≤ℚ x) (y_nn : 0ℚ ≤ℚ y) (z_nn : 0ℚ ≤ℚ z)
    (tail : s ≡ p *ℚ y) (head : t ≡ q *ℚ z) (at_most : p <ℚ q → x ≤ℚ c *ℚ t) where
  abbrev m : ℚ
  m = max_ℚ 0ℚ (q -ℚ p)

  m_nn : 0ℚ ≤ℚ m
  m_nn = max_left 0ℚ (q -ℚ p)

  m_gap : q -ℚ p ≤ℚ m
  m_gap = max_right 0ℚ (q -ℚ p)

  c_nn : 0ℚ ≤ℚ c
  c_nn = linear_le (n ∷ c ∷ []) (le n_nn ∷ le n_le ∷ []) (search reading_of) tt

  abbrev Done : ℚ → Type 0
  Done k = Raises n c p q x s t y z k

  full : x ≡ n *ℚ t → Done (n *ℚ q)
  full e = record {
    bears = record {
      not_negative = nn_times n q n_nn (≤ℚ_of_lt _ _ q_ps);
      up = inr (flow_ge (≤ℚ_of_same _ _ (sym e)));
      down = inr (flow_le (≤ℚ_of_same _ _ e));
    };
    pays = paid m m_nn m_gap;
  }
    where
      flow_ge : n *ℚ t ≤ℚ x → (n *ℚ q) *ℚ z ≤ℚ x
      flow_ge h = linear_le (n ∷ q ∷ z ∷ x ∷ t ∷ []) (le h ∷ eq_times n head ∷ []) (search reading_of) tt

      flow_le : x ≤ℚ n *ℚ t → x ≤ℚ (n *ℚ q) *ℚ z
      flow_le h = linear_le (n ∷ q ∷ z ∷ x ∷ t ∷ []) (le h ∷ eq_times n head ∷ []) (search reading_of) tt

      paid : (g : ℚ) → 0ℚ ≤ℚ g → q -ℚ p ≤ℚ g → n *ℚ (t -ℚ s) ≤ℚ (n *ℚ q) *ℚ (z -ℚ y) +ℚ 1ℚ *ℚ ((c *ℚ g) *ℚ y)
      paid g h k =
          let w : n *ℚ (q -ℚ p) ≤ℚ c *ℚ g = linear_le (n ∷ q ∷ p ∷ c ∷ g ∷ []) (le_times n_nn k ∷ le_times h n_le ∷ []) (search reading_of) tt in
          linear_le (n ∷ q ∷ p ∷ c ∷ g ∷ s ∷ t ∷ y ∷ z ∷ []) (le_times y_nn w ∷ eq_times n head ∷ eq_times n tail ∷ []) (search reading_of) tt

  steep_case : n ≡ 0ℚ → p <ℚ q → s ≡ t → Done (c *ℚ q)
  steep_case e up same = record {
    bears = record { not_negative = nn_times c q c_nn (≤ℚ_of_lt _ _ q_ps); up = inl (le_from_times q z y q_ps lower); down = inr (flow_le (at_most up)) };
    pays = paid m m_gap;
  }
    where
      lower : q *ℚ z ≤ℚ q *ℚ y
      lower = let l : p ≤ℚ q = ≤ℚ_of_lt _ _ up in linear_le (p ∷ q ∷ y ∷ z ∷ s ∷ t ∷ []) (eq tail ∷ eq head ∷ eq same ∷ le_times y_nn l ∷ [])
          (search reading_of) tt

      flow_le : x ≤ℚ c *ℚ t → x ≤ℚ (c *ℚ q) *ℚ z
      flow_le h = linear_le (c ∷ q ∷ z ∷ x ∷ t ∷ []) (le h ∷ eq_times c head ∷ []) (search reading_of) tt

      paid : (g : ℚ) → q -ℚ p ≤ℚ g → n *ℚ (t -ℚ s) ≤ℚ (c *ℚ q) *ℚ (z -ℚ y) +ℚ 1ℚ *ℚ ((c *ℚ g) *ℚ y)
      paid g k =
          let w : c *ℚ (q -ℚ p) ≤ℚ c *ℚ g = linear_le (c ∷ q ∷ p ∷ g ∷ []) (le_times c_nn k ∷ []) (search reading_of) tt in
          linear_le (n ∷ q ∷ p ∷ c ∷ g ∷ s ∷ t ∷ y ∷ z ∷ [])
          (le_times y_nn w ∷ eq_times (t -ℚ s) e ∷ eq_times c tail ∷ eq_times c head ∷ eq_times c same ∷ []) (search reading_of) tt

  nothing_paid : n ≡ 0ℚ → n *ℚ (t -ℚ s) ≤ℚ 0ℚ *ℚ (z -ℚ y) +ℚ 1ℚ *ℚ ((c *ℚ m) *ℚ y)
  nothing_paid e = paid m (nn_times c m c_nn m_nn)
    where
      paid : (g : ℚ) → 0ℚ ≤ℚ c *ℚ g → n *ℚ (t -ℚ s) ≤ℚ 0ℚ *ℚ (z -ℚ y) +ℚ 1ℚ *ℚ ((c *ℚ g) *ℚ y)
      paid g h = linear_le (n ∷ c ∷ g ∷ s ∷ t ∷ y ∷ z ∷ []) (le_times y_nn h ∷ eq_times (t -ℚ s) e ∷ []) (search reading_of) tt

  none_up : 0ℚ *ℚ z ≤ℚ x
  none_up = linear_le (z ∷ x ∷ []) (le x_nn ∷ []) (search reading_of) tt

  zero_nn : 0ℚ ≤ℚ 0ℚ
  zero_nn = linear_le [] [] (search reading_of) tt

  empty_case : n ≡ 0ℚ → x ≡ 0ℚ → Done 0ℚ
  empty_case e f = record {
    bears = record { not_negative = zero_nn; up = inr none_up; down = inr (linear_le (z ∷ x ∷ []) (eq f ∷ []) (search reading_of) tt) };
    pays = nothing_paid e;
  }

  level_case : n ≡ 0ℚ → q ≤ℚ p → s ≡ t → Done 0ℚ
  level_case e down same = record {
    bears = record { not_negative = zero_nn; up = inr none_up; down = inl (le_from_times p y z p_ps higher) };
    pays = nothing_paid e;
  }
    where
      higher : p *ℚ y ≤ℚ p *ℚ z
      higher = linear_le (p ∷ q ∷ y ∷ z ∷ s ∷ t ∷ []) (eq tail ∷ eq head ∷ eq same ∷ le_times z_nn down ∷ []) (search reading_of) tt

  pub raises : Kind n x s t → Raises n c p q x s t y z (raised n x c p q)
  raises (inl (some, e)) = subst Done (sym (raised-full n x c p q some)) (full e)
  raises (inr (none, inl empty)) = subst Done (sym (raised-empty n x c p q none empty)) (empty_case none empty)
  raises (inr (none, inr same)) = ⊎_elim
      (λ (up : p <ℚ q). ⊎_elim
      (λ (some : 0ℚ <ℚ x). subst Done (sym (raised-steep n x c p q none up some)) (steep_case none up same))
      (λ (k : x ≤ℚ 0ℚ). let empty : x ≡ 0ℚ = ≤ℚ_antisymm _ _ k x_nn in subst Done (sym (raised-empty n x c p q none empty)) (empty_case none empty))
      (lt_or_le_ℚ 0ℚ x))
      (λ (down : q ≤ℚ p). subst Done (sym (raised-level n x c p q none down)) (level_case none down same))
      (lt_or_le_ℚ p q)
