-- Tables whose first columns are cleared: each of these columns has a pivot row, and is 0 in every other row.
use Rattle.std.proofs.Common.{◌≡◌, ◌≢◌, ℕ, zero, suc, ◌<◌, ◌≤◌, [], ◌∷◌, ◌⊎◌, inl, inr, ⊎_elim, true, false, cond, eqb, ltb, leb, refl, sym, ap, subst, ◌∙◌}
use Rattle.std.proofs.Common.{arith}
use Rattle.nf_linear_laws.proofs.Common.{eqb_tells, leb_tells, ℚ, 0ℚ, 1ℚ, ◌+ℚ◌, ◌-ℚ◌, ◌*ℚ◌, ◌/ℚ◌, reading_of, *ℚ_comm, times_one, times_zero, /ℚ-times}
use Rattle.nf_linear_laws.proofs.Common.{/ℚ-unique, eq, eq_times, linear_eq, times_first_zero, times_second_zero}
use Rattle.nf_linear_laws.proofs.Totals.{total, total_zero, total_one, total_two}
use Rattle.nf_linear_laws.proofs.Steps.{Table, Meets, IsStep, kept_row}

ltb_tells : (a b : ℕ) → ((ltb a b ≡ true) × (a < b)) ⊎ ((ltb a b ≡ false) × (b ≤ a))
ltb_tells a b = ⊎_elim
    (λ (s : (leb (suc a) b ≡ true) × (suc a ≤ b)). inl (s.0, (let h = s.1 in omega arith)))
    (λ (s : (leb (suc a) b ≡ false) × (b < suc a)). inr (s.0, (let h = s.1 in omega arith)))
    (leb_tells (suc a) b)

-- the first c columns are cleared, and P d is the number of column d's pivot row
pub record Reduced (n c : ℕ) (M : Table) (P : ℕ → ℕ) : Type 0 where
  pub within : (d : ℕ) → d < c → P d < n
  pub apart : (d e : ℕ) → d < c → e < c → d ≢ e → P d ≢ P e
  pub pivot : (d : ℕ) → d < c → M (P d) d ≢ 0ℚ
  pub cleared : (d i : ℕ) → d < c → i < n → i ≢ P d → M i d ≡ 0ℚ

-- a row is the pivot row of one of the first columns, or of none
pub place : (P : ℕ → ℕ) (i c : ℕ) → ((d : ℕ) × (d < c) × (P d ≡ i)) ⊎ ((d : ℕ) → d < c → P d ≢ i)
place P i zero = inr (λ d b. absurd (omega arith))
place P i (suc c) = ⊎_elim
    (λ (s : (eqb (P c) i ≡ true) × (P c ≡ i)). inl (c, omega arith, s.1))
    (λ (s : (eqb (P c) i ≡ false) × (P c ≢ i)). earlier (place P i c) s.1)
    (eqb_tells (P c) i)
  where
    last_or_before : (d : ℕ) → d < suc c → P c ≢ i → ((d : ℕ) → d < c → P d ≢ i) → P d ≢ i
    last_or_before d b other before = ⊎_elim
        (λ (s : (eqb d c ≡ true) × (d ≡ c)). subst (λ (k : ℕ). P k ≢ i) (sym s.1) other)
        (λ (s : (eqb d c ≡ false) × (d ≢ c)). let apart = s.1 in before d (omega arith))
        (eqb_tells d c)

    earlier : ((d : ℕ) × (d < c) × (P d ≡ i)) ⊎ ((d : ℕ) → d < c → P d ≢ i) → P c ≢ i → ((d : ℕ) × (d < suc c) × (P d ≡ i)) ⊎ ((d : ℕ) → d < suc c → P d ≢ i)
    earlier (inl h) other = inl (h.0, (let b = h.1 in omega arith), h.2)
    earlier (inr h) other = inr (λ d b. last_or_before d b other h)

-- ---- equations of rationals
less_nothing : (a k b : ℚ) → b ≡ 0ℚ → a -ℚ k *ℚ b ≡ a
less_nothing a k b e = linear_eq (a ∷ k ∷ b ∷ []) (eq_times k e ∷ []) (search reading_of) tt tt

cancels : (a q b x y : ℚ) → q *ℚ a ≡ b → x ≡ 0ℚ -ℚ q → y ≡ 1ℚ → a *ℚ x +ℚ b *ℚ y ≡ 0ℚ
cancels a q b x y e f g = linear_eq (a ∷ q ∷ b ∷ x ∷ y ∷ []) (eq e ∷ eq_times a f ∷ eq_times b g ∷ []) (search reading_of) tt tt

-- ---- one more column
module _ {n c p : ℕ} {g : ℕ → ℚ} {M N : Table} {P Q : ℕ → ℕ}
    (r : Reduced n c M P) (step : IsStep n p g M N) (inside : c < n) (other : (d : ℕ) → d < c → P d ≢ p) (some : M p c ≢ 0ℚ)
    (clear : (i : ℕ) → i < n → i ≢ p → N i c ≡ 0ℚ) (before : (d : ℕ) → d < c → Q d ≡ P d) (new : Q c ≡ p) where
  earlier_kept : (d i : ℕ) → d < c → i < n → N i d ≡ M i d
  earlier_kept d i b a =
      let j : d < suc n = omega arith in
      step.at i d a j ∙ less_nothing (M i d) (g i) (M p d) (r.cleared d p b step.within (λ e. other d b (sym e)))

  by_column : (A : ℕ → Type 0) → ((d : ℕ) → d < c → A d) → A c → (d : ℕ) → d < suc c → A d
  by_column A h k d b = ⊎_elim
      (λ (s : (eqb d c ≡ true) × (d ≡ c)). subst A (sym s.1) k)
      (λ (s : (eqb d c ≡ false) × (d ≢ c)). let apart = s.1 in h d (omega arith))
      (eqb_tells d c)

  pub one_more : Reduced n (suc c) N Q
  one_more = record {
    within = by_column (λ d. Q d < n) (λ d b. subst (λ (k : ℕ). k < n) (sym (before d b)) (r.within d b)) (subst (λ (k : ℕ). k < n) (sym new) step.within);
    apart = λ d e b a different. by_column (λ d. (e : ℕ) → e < suc c → d ≢ e → Q d ≢ Q e)
        (λ d b. by_column (λ e. d ≢ e → Q d ≢ Q e)
        (λ e a different same. r.apart d e b a different (sym (before d b) ∙ same ∙ before e a))
        (λ different same. other d b (sym (before d b) ∙ same ∙ new)))
        (by_column (λ e. c ≢ e → Q c ≢ Q e)
        (λ e a different same. other e a (sym (before e a) ∙ sym same ∙ new))
        (λ different same. different refl)) d b e a different;
    pivot = by_column (λ d. N (Q d) d ≢ 0ℚ)
        (λ d b. subst (λ (k : ℕ). N k d ≢ 0ℚ) (sym (before d b)) (λ e. r.pivot d b (sym (earlier_kept d (P d) b (r.within d b)) ∙ e)))
        (subst (λ (k : ℕ). N k c ≢ 0ℚ) (sym new) (λ e. some (sym (kept_row step c (omega arith)) ∙ e)));
    cleared = λ d i b. by_column (λ d. i < n → i ≢ Q d → N i d ≡ 0ℚ)
        (λ d b a different. earlier_kept d i b a ∙ r.cleared d i b a (λ e. different (e ∙ sym (before d b))))
        (λ a different. clear i a (λ e. different (e ∙ sym new))) d b;
  }

-- ---- all columns: one solution
module _ {n : ℕ} {M : Table} {P : ℕ → ℕ} (r : Reduced n n M P) where
  abbrev pub solution : ℕ → ℚ
  solution d = M (P d) n /ℚ M (P d) d

  alone : (x : ℕ → ℚ) (d : ℕ) → d < n → total n (λ j. M (P d) j *ℚ x j) ≡ M (P d) d *ℚ x d
  alone x d b = total_one n d (λ j. M (P d) j *ℚ x j) b
      (λ j a different. times_first_zero (M (P d) j) (x j) (r.cleared j (P d) a (r.within d b) (r.apart d j b a (λ e. different (sym e)))))

  pub forced : (x : ℕ → ℚ) → Meets n M 1ℚ x → (d : ℕ) → d < n → x d ≡ solution d
  forced x h d b = /ℚ-unique (M (P d) n) (M (P d) d) (x d) (r.pivot d b)
      (*ℚ_comm (x d) (M (P d) d) ∙ sym (alone x d b) ∙ h (P d) (r.within d b) ∙ times_one (M (P d) n))

  pub met : (x : ℕ → ℚ) → ((i : ℕ) → i < n → (d : ℕ) × (d < n) × (P d ≡ i)) → ((d : ℕ) → d < n → x d ≡ solution d) → Meets n M 1ℚ x
  met x every h i a =
      let found = every i a in
      let d = found.0 in
      subst (λ (k : ℕ). total n (λ j. M k j *ℚ x j) ≡ M k n *ℚ 1ℚ) found.2
      (alone x d found.1 ∙ ap (λ (v : ℚ). M (P d) d *ℚ v) (h d found.1) ∙ *ℚ_comm (M (P d) d) (solution d) ∙ /ℚ-times (M (P d) n) (M (P d) d) (r.pivot d found.1)
      ∙ sym (times_one (M (P d) n)))

-- ---- a column without a pivot: a solution of the homogeneous system that is not 0 there
module _ {n c : ℕ} {M : Table} {P : ℕ → ℕ} (r : Reduced n c M P) (inside : c < n) (none : (i : ℕ) → i < n → ((d : ℕ) → d < c → P d ≢ i) → M i c ≡ 0ℚ) where
  abbrev pub free : ℕ → ℚ
  free j = cond (ltb j c) (0ℚ -ℚ M (P j) c /ℚ M (P j) j) (cond (eqb j c) 1ℚ 0ℚ)

  free-before : (j : ℕ) → j < c → free j ≡ 0ℚ -ℚ M (P j) c /ℚ M (P j) j
  free-before j b = ⊎_elim
      (λ (s : (ltb j c ≡ true) × (j < c)). rw s.0 refl)
      (λ (s : (ltb j c ≡ false) × (c ≤ j)). let h = s.1 in absurd (omega arith))
      (ltb_tells j c)

  pub free-at : free c ≡ 1ℚ
  free-at = ⊎_elim
      (λ (s : (ltb c c ≡ true) × (c < c)). let h = s.1 in absurd (omega arith))
      (λ (s : (ltb c c ≡ false) × (c ≤ c)). ⊎_elim
      (λ (t : (eqb c c ≡ true) × (c ≡ c)). rw (s.0, t.0) refl)
      (λ (t : (eqb c c ≡ false) × (c ≢ c)). absurd (t.1 refl))
      (eqb_tells c c))
      (ltb_tells c c)

  free-after : (j : ℕ) → c < j → free j ≡ 0ℚ
  free-after j b = ⊎_elim
      (λ (s : (ltb j c ≡ true) × (j < c)). let h = s.1 in absurd (omega arith))
      (λ (s : (ltb j c ≡ false) × (c ≤ j)). ⊎_elim
      (λ (t : (eqb j c ≡ true) × (j ≡ c)). let h = t.1 in absurd (omega arith))
      (λ (t : (eqb j c ≡ false) × (j ≢ c)). rw (s.0, t.0) refl)
      (eqb_tells j c))
      (ltb_tells j c)

  -- Each number before the column is 0 in the row, or does not count.
  by_place : (A : ℕ → Type 0) → (j : ℕ) → (j < c → A j) → A c → (c < j → A j) → A j
  by_place A j h k l = ⊎_elim
      (λ (s : (ltb j c ≡ true) × (j < c)). h s.1)
      (λ (s : (ltb j c ≡ false) × (c ≤ j)). ⊎_elim
      (λ (t : (eqb j c ≡ true) × (j ≡ c)). subst A (sym t.1) k)
      (λ (t : (eqb j c ≡ false) × (j ≢ c)). let b = s.1 in let d = t.1 in l (omega arith))
      (eqb_tells j c))
      (ltb_tells j c)

  in_pivot_row : (d : ℕ) → d < c → total n (λ j. M (P d) j *ℚ free j) ≡ 0ℚ
  in_pivot_row d b =
      total_two n d c (λ j. M (P d) j *ℚ free j) b inside
      (λ j a first second. by_place (λ j. j ≢ d → j ≢ c → j < n → M (P d) j *ℚ free j ≡ 0ℚ) j
      (λ h f s k. times_first_zero (M (P d) j) (free j) (r.cleared j (P d) h (r.within d b) (r.apart d j b h (λ e. f (sym e)))))
      (λ f s k. absurd (s refl))
      (λ h f s k. times_second_zero (M (P d) j) (free j) (free-after j h)) first second a)
      ∙ cancels (M (P d) d) (M (P d) c /ℚ M (P d) d) (M (P d) c) (free d) (free c) (/ℚ-times (M (P d) c) (M (P d) d) (r.pivot d b)) (free-before d b) free-at

  in_other_row : (i : ℕ) → i < n → ((d : ℕ) → d < c → P d ≢ i) → total n (λ j. M i j *ℚ free j) ≡ 0ℚ
  in_other_row i a other = total_zero n (λ j. M i j *ℚ free j)
      (λ j b. by_place (λ j. M i j *ℚ free j ≡ 0ℚ) j
      (λ h. times_first_zero (M i j) (free j) (r.cleared j i h a (λ e. other j h (sym e))))
      (times_first_zero (M i c) (free c) (none i a other))
      (λ h. times_second_zero (M i j) (free j) (free-after j h)))

  pub homogeneous : Meets n M 0ℚ free
  homogeneous i a = ⊎_elim
      (λ (s : (d : ℕ) × (d < c) × (P d ≡ i)). subst (λ (k : ℕ). total n (λ j. M k j *ℚ free j) ≡ 0ℚ) s.2 (in_pivot_row s.0 s.1))
      (λ (s : (d : ℕ) → d < c → P d ≢ i). in_other_row i a s)
      (place P i c) ∙ sym (times_zero (M i n))
