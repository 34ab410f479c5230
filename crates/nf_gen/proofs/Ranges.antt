-- Lists that go by a range of numbers: what holds of each entry, and what is among them.
use Rattle.std.proofs.Common.{◌≡◌, ℕ, zero, suc, ◌+◌, ◌<◌, ◌≤◌, List, [], ◌∷◌, ◌++◌, length, map, flat_map, inl, inr, ap, subst, ◌∙◌, arith}
use Rattle.nf_gen.proofs.Common.{AllByRecursion, range_with_len, cases_eq, slice_get-left, slice_get-right, Entry, every_append}

-- ---- each entry
module _ {X : Type 0} (P : X → Type 0) where
  pub all_flat : (f : ℕ → List X) (a n : ℕ) → ((j : ℕ) → a ≤ j → j < a + n → AllByRecursion P (f j)) → AllByRecursion P (flat_map f (range_with_len a n))
  all_flat f a zero each = tt
  all_flat f a (suc n) each = every_append _ (f a) (flat_map f (range_with_len (a + 1) n)) (each a (omega arith) (omega arith))
      (all_flat f (a + 1) n (λ j low high. each j (omega arith) (omega arith)))

  pub all_map : (f : ℕ → X) (a n : ℕ) → ((j : ℕ) → a ≤ j → j < a + n → P (f j)) → AllByRecursion P (map f (range_with_len a n))
  all_map f a zero each = tt
  all_map f a (suc n) each = (each a (omega arith) (omega arith), all_map f (a + 1) n (λ j low high. each j (omega arith) (omega arith)))

-- ---- entries
module _ {X : Type 0} where
  pub entry_left : (xs ys : List X) (x : X) → Entry xs x → Entry (xs ++ ys) x
  entry_left xs ys x h = (h.0, slice_get-left xs ys h.0 x h.1)

  pub entry_right : (xs ys : List X) (x : X) → Entry ys x → Entry (xs ++ ys) x
  entry_right xs ys x h = (length xs + h.0, slice_get-right xs ys h.0 ∙ h.1)

  pub entry_flat : (f : ℕ → List X) (x : X) (a n j : ℕ) → a ≤ j → j < a + n → Entry (f j) x → Entry (flat_map f (range_with_len a n)) x
  entry_flat f x a zero j low high h = absurd (omega arith)
  entry_flat f x a (suc n) j low high h = elim (cases_eq j a) [
    | inl same ↦ entry_left (f a) (flat_map f (range_with_len (a + 1) n)) x (subst (λ (k : ℕ). Entry (f k) x) same h)
    | inr other ↦ entry_right (f a) (flat_map f (range_with_len (a + 1) n)) x (entry_flat f x (a + 1) n j (omega arith) (omega arith) h)
  ]

-- ---- counting with one more
counted : (a n j : ℕ) → a + n ≡ j → range_with_len a (suc n) ≡ range_with_len a n ++ j ∷ []
counted a zero j e = let same : a ≡ j = omega arith in ap (λ (k : ℕ). k ∷ []) same
counted a (suc n) j e = ap (λ l. a ∷ l) (counted (a + 1) n j (omega arith))

pub count_push : (k : ℕ) → range_with_len 1 (suc k) ≡ range_with_len 1 k ++ suc k ∷ []
count_push k = counted 1 k (suc k) (omega arith)
