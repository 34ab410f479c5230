-- A multiple of one row subtracted from all other rows: the system has the same solutions before and after.
-- A table of n rows is given by its numbers M i j, where column n is the right side.
use Rattle.std.proofs.Common.{◌≡◌, ℕ, suc, ◌<◌, [], ◌∷◌, sym, ap, ◌∙◌, arith}
use Rattle.nf_linear_laws.proofs.Common.{ℚ, 0ℚ, ◌+ℚ◌, ◌-ℚ◌, ◌*ℚ◌, ring, reading, reading_of, rationals, eq_times, linear_eq}
use Rattle.nf_linear_laws.proofs.Totals.{total, total_same, total_less}

abbrev pub Table : Type 0
Table = ℕ → ℕ → ℚ

-- With x, each row has its right side times t: t is 1 for the system, and 0 for the homogeneous system.
abbrev pub Meets : ℕ → Table → ℚ → (ℕ → ℚ) → Type 0
Meets n M t x = (i : ℕ) → i < n → total n (λ j. M i j *ℚ x j) ≡ M i n *ℚ t

-- Each row i loses g i times row p, and row p does not change.
pub record IsStep (n p : ℕ) (g : ℕ → ℚ) (M N : Table) : Type 0 where
  pub within : p < n
  pub at : (i j : ℕ) → i < n → j < suc n → N i j ≡ M i j -ℚ g i *ℚ M p j
  pub kept : g p ≡ 0ℚ

-- ---- equations of rationals
times_less : (a k b x : ℚ) → (a -ℚ k *ℚ b) *ℚ x ≡ a *ℚ x -ℚ k *ℚ (b *ℚ x)
times_less a k b x = ring rationals (a ∷ k ∷ b ∷ x ∷ []) (search reading depth 30) tt

restored : (s r k : ℚ) → s ≡ (s -ℚ k *ℚ r) +ℚ k *ℚ r
restored s r k = ring rationals (s ∷ r ∷ k ∷ []) (search reading depth 30) tt

nothing_less : (a k b : ℚ) → k ≡ 0ℚ → a -ℚ k *ℚ b ≡ a
nothing_less a k b e = linear_eq (a ∷ k ∷ b ∷ []) (eq_times b e ∷ []) (search reading_of) tt tt

module _ {n p : ℕ} {g : ℕ → ℚ} {M N : Table} (step : IsStep n p g M N) where
  pub kept_row : (j : ℕ) → j < suc n → N p j ≡ M p j
  kept_row j b = step.at p j step.within b ∙ nothing_less (M p j) (g p) (M p j) step.kept

  module _ (x : ℕ → ℚ) where
    along : (i : ℕ) → i < n → total n (λ j. N i j *ℚ x j) ≡ total n (λ j. M i j *ℚ x j) -ℚ g i *ℚ total n (λ j. M p j *ℚ x j)
    along i a =
        total_same n (λ j. N i j *ℚ x j) (λ j. M i j *ℚ x j -ℚ g i *ℚ (M p j *ℚ x j))
        (λ j b. let c : j < suc n = omega arith in ap (λ (v : ℚ). v *ℚ x j) (step.at i j a c) ∙ times_less (M i j) (g i) (M p j) (x j))
        ∙ total_less n (λ j. M i j *ℚ x j) (λ j. M p j *ℚ x j) (g i)

    last : (i : ℕ) (t : ℚ) → i < n → N i n *ℚ t ≡ M i n *ℚ t -ℚ g i *ℚ (M p n *ℚ t)
    last i t a = let c : n < suc n = omega arith in ap (λ (v : ℚ). v *ℚ t) (step.at i n a c) ∙ times_less (M i n) (g i) (M p n) t

    pub meets_after : (t : ℚ) → Meets n M t x → Meets n N t x
    meets_after t h i a =
        along i a
        ∙ ap (λ (s : ℚ). s -ℚ g i *ℚ total n (λ j. M p j *ℚ x j)) (h i a)
        ∙ ap (λ (r : ℚ). M i n *ℚ t -ℚ g i *ℚ r) (h p step.within)
        ∙ sym (last i t a)

    pivot_before : (t : ℚ) → Meets n N t x → total n (λ j. M p j *ℚ x j) ≡ M p n *ℚ t
    pivot_before t h =
        total_same n (λ j. M p j *ℚ x j) (λ j. N p j *ℚ x j) (λ j b. let c : j < suc n = omega arith in ap (λ (v : ℚ). v *ℚ x j) (sym (kept_row j c)))
        ∙ h p step.within
        ∙ (let c : n < suc n = omega arith in ap (λ (v : ℚ). v *ℚ t) (kept_row n c))

    pub meets_before : (t : ℚ) → Meets n N t x → Meets n M t x
    meets_before t h i a =
        restored (total n (λ j. M i j *ℚ x j)) (total n (λ j. M p j *ℚ x j)) (g i)
        ∙ ap (λ (s : ℚ). s +ℚ g i *ℚ total n (λ j. M p j *ℚ x j)) (sym (along i a) ∙ h i a ∙ last i t a)
        ∙ ap (λ (r : ℚ). (M i n *ℚ t -ℚ g i *ℚ (M p n *ℚ t)) +ℚ g i *ℚ r) (pivot_before t h)
        ∙ sym (restored (M i n *ℚ t) (M p n *ℚ t) (g i))
