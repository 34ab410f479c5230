-- A step of the elimination by the entries of the pivot row other than 0 does what the table list does with all of them.
use Rattle.std.proofs.Common.{◌≡◌, ℕ, zero, suc, ◌+◌, ◌<◌, List, [], ◌∷◌, ◌++◌, length, set, take, drop, Bool, true, false, refl, sym, ap, ◌∙◌}
use Rattle.std.proofs.Common.{append_assoc, length-set, length-drop, arith, if◌then◌else◌, Ok, Err}
use Rattle.nf_linear.proofs.Common.{ℚ, 0ℚ, Passing, Quotient, Checked, checked, fold_checked, ◌>>=◌, number_at, is_zero, Row, less_unless, entries_less}
use Rattle.nf_linear.proofs.Common.{cleared_row, some_from, entry_less, clear_row}
use Rattle.nf_frac_def.proofs.Binding.{bind_same}
use Rattle.nf_linear.proofs.Fronts.{take_set, drop_set, take_whole}

-- ---- one place of a list
pub drop_one : (xs : List ℚ) (k : ℕ) → k < length xs → drop k xs ≡ number_at xs k ∷ drop (suc k) xs
drop_one [] k b = absurd (omega arith)
drop_one (x ∷ xs) zero b = refl
drop_one (x ∷ xs) (suc k) b = drop_one xs k (omega arith)

take_one : (xs : List ℚ) (k : ℕ) → k < length xs → take (suc k) xs ≡ take k xs ++ number_at xs k ∷ []
take_one [] k b = absurd (omega arith)
take_one (x ∷ xs) zero b = refl
take_one (x ∷ xs) (suc k) b = ap (λ (l : List ℚ). x ∷ l) (take_one xs k (omega arith))

-- ---- one computation after another
after_front : (r : Checked Row) (front new : Row) (x : ℚ) → new ≡ front ++ x ∷ [] → (r >>= λ ys. Ok (new ++ ys)) ≡ ((r >>= λ ys. Ok (x ∷ ys)) >>= λ zs. Ok (front ++ zs))
after_front (Ok ys) front new x e = ap Ok (ap (λ (l : Row). l ++ ys) e ∙ append_assoc front (x ∷ []) ys)
after_front (Err p) front new x e = refl

after_zero : (r : Checked Row) (front new : Row) (x : ℚ) → new ≡ front ++ x ∷ [] → (r >>= λ ys. Ok (new ++ ys)) ≡ (r >>= λ ys. Ok (front ++ x ∷ ys))
after_zero (Ok ys) front new x e = ap Ok (ap (λ (l : Row). l ++ ys) e ∙ append_assoc front (x ∷ []) ys)
after_zero (Err p) front new x e = refl

module _ (passes : Passing) (f : ℚ) where
  abbrev folded : Row → List (ℕ × ℚ) → Checked Row
  folded row others = fold_checked (entry_less passes f) row others

  abbrev listed : Row → ℕ → Row → Checked Row
  listed ps k row = entries_less passes f ps (drop k row) >>= λ ys. Ok (take k row ++ ys)

  one_taken : (r : Checked ℚ) (ps row : Row) (k : ℕ) → k < length row → ((next : Row) → length next ≡ length row → folded next (some_from (suc k) ps) ≡ listed ps (suc k) next)
      → ((r >>= λ y. Ok (set row k y)) >>= λ next. folded next (some_from (suc k) ps))
      ≡ ((r >>= λ y. entries_less passes f ps (drop (suc k) row) >>= λ ys. Ok (y ∷ ys)) >>= λ zs. Ok (take k row ++ zs))
  one_taken (Err p) ps row k b h = refl
  one_taken (Ok y) ps row k b h =
      h (set row k y) (length-set row k y)
      ∙ ap (λ (d : Row). entries_less passes f ps d >>= λ ys. Ok (take (suc k) (set row k y) ++ ys)) (drop_set row k y)
      ∙ after_front (entries_less passes f ps (drop (suc k) row)) (take k row) (take (suc k) (set row k y)) y (take_set row k y b)

  by_test : (t : Bool) (p : ℚ) (ps row : Row) (k : ℕ) → k < length row → ((next : Row) → length next ≡ length row → folded next (some_from (suc k) ps) ≡ listed ps (suc k) next)
      → folded row (if t then some_from (suc k) ps else (k, p) ∷ some_from (suc k) ps)
      ≡ ((less_unless passes t f p (number_at row k) >>= λ y. entries_less passes f ps (drop (suc k) row) >>= λ ys. Ok (y ∷ ys)) >>= λ zs. Ok (take k row ++ zs))
  by_test true p ps row k b h = h row refl ∙ after_front (entries_less passes f ps (drop (suc k) row)) (take k row) (take (suc k) row) (number_at row k) (take_one row k b)
  by_test false p ps row k b h = one_taken (less_unless passes false f p (number_at row k)) ps row k b h

  some_taken : (ps row : Row) (k : ℕ) → k + length ps ≡ length row → folded row (some_from k ps) ≡ listed ps k row
  some_taken [] row k e = ap Ok (sym (take_whole row k (omega arith)))
  some_taken (p ∷ ps) row k e =
      by_test (is_zero p) p ps row k (omega arith) (λ next h. some_taken ps next (suc k) (omega arith))
      ∙ ap (λ (d : Row). entries_less passes f (p ∷ ps) d >>= λ zs. Ok (take k row ++ zs)) (sym (drop_one row k (omega arith)))

  with_zero_taken : (c : ℕ) (pivot_row row : Row) → length pivot_row ≡ length row → c < length row
      → folded (set row c 0ℚ) (some_from (suc c) (drop (suc c) pivot_row))
      ≡ (entries_less passes f (drop (suc c) pivot_row) (drop (suc c) row) >>= λ later. Ok (take c row ++ 0ℚ ∷ later))
  with_zero_taken c pivot_row row e b =
      some_taken (drop (suc c) pivot_row) (set row c 0ℚ) (suc c) (omega (arith, length-drop (suc c) pivot_row, length-set row c 0ℚ))
      ∙ ap (λ (d : Row). entries_less passes f (drop (suc c) pivot_row) d >>= λ ys. Ok (take (suc c) (set row c 0ℚ) ++ ys)) (drop_set row c 0ℚ)
      ∙ after_zero (entries_less passes f (drop (suc c) pivot_row) (drop (suc c) row)) (take c row) (take (suc c) (set row c 0ℚ)) 0ℚ (take_set row c 0ℚ b)

pub clear_row-is : (passes : Passing) (c : ℕ) (pivot_row row : Row) → length pivot_row ≡ length row → c < length row
    → clear_row passes c (number_at pivot_row c) (some_from (suc c) (drop (suc c) pivot_row)) row ≡ cleared_row passes c pivot_row row
clear_row-is passes c pivot_row row e b = bind_same (checked passes Quotient (number_at row c) (number_at pivot_row c)) _ _ (λ f. with_zero_taken passes f c pivot_row row e b)
