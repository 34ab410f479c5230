-- The value of the table operations, and the solutions of the system.
use Rattle.std.proofs.Common.{◌≡◌, ◌≢◌, ℕ, zero, suc, ◌<◌, List, [], ◌∷◌, length, Some, None, refl, sym, ap, subst, ◌∙◌, arith, Ok}
use Rattle.nf_linear_laws.proofs.Common.{ℚ, 0ℚ, 1ℚ, ◌+ℚ◌, ◌-ℚ◌, ◌*ℚ◌, ps_whole, ring, reading, reading_of, rationals, zero-*ℚ, times_one, ps_apart, eq}
use Rattle.nf_linear_laws.proofs.Common.{linear_eq, Passing, number_at, Row, row_at, table_list, IsSquare, left_side, SolvesRows, IsOnlySolution}
use Rattle.nf_linear_laws.proofs.Exact.{table_list_as}
use Rattle.nf_linear_laws.proofs.Totals.{total, total_same, total_zero, total_less}
use Rattle.nf_linear_laws.proofs.Steps.{Meets}
use Rattle.nf_linear_laws.proofs.Elimination.{numbers, IsSolvedBy, IsLoose, table_says}
use Rattle.nf_rational_laws.proofs.Entries.{same_entries}

-- ---- lists and their numbers

abbrev listed : ℕ → (ℕ → ℚ) → List ℚ
listed zero f = []
listed (suc n) f = f 0 ∷ listed n (λ j. f (suc j))

listed-length : (n : ℕ) (f : ℕ → ℚ) → length (listed n f) ≡ n
listed-length zero f = refl
listed-length (suc n) f = ap suc (listed-length n (λ j. f (suc j)))

listed-at : (n : ℕ) (f : ℕ → ℚ) (j : ℕ) → j < n → number_at (listed n f) j ≡ f j
listed-at zero f j b = absurd (omega arith)
listed-at (suc n) f zero b = refl
listed-at (suc n) f (suc j) b = listed-at n (λ j. f (suc j)) j (omega arith)

-- ---- solutions, by the numbers of the table
left_side-is : (row xs : List ℚ) (n : ℕ) → length xs ≡ n → left_side row xs ≡ total n (λ j. number_at row j *ℚ number_at xs j)
left_side-is [] xs n e = sym (total_zero n (λ j. 0ℚ *ℚ number_at xs j) (λ j b. zero-*ℚ (number_at xs j)))
left_side-is (a ∷ row) [] zero e = refl
left_side-is (a ∷ row) [] (suc n) e = absurd (cc)
left_side-is (a ∷ row) (x ∷ xs) zero e = absurd (cc)
left_side-is (a ∷ row) (x ∷ xs) (suc n) e = ap (λ (s : ℚ). a *ℚ x +ℚ s) (left_side-is row xs n (cc))

meets_of : (rows : List Row) (xs : List ℚ) → SolvesRows rows xs → Meets (length rows) (numbers rows) 1ℚ (number_at xs)
meets_of rows xs s i b = sym (left_side-is (row_at rows i) xs (length rows) s.count) ∙ s.each i b ∙ sym (times_one (numbers rows i (length rows)))

solves_of : (rows : List Row) (xs : List ℚ) → length xs ≡ length rows → Meets (length rows) (numbers rows) 1ℚ (number_at xs) → SolvesRows rows xs
solves_of rows xs e h = record { count = e; each = λ i b. left_side-is (row_at rows i) xs (length rows) e ∙ h i b ∙ times_one (numbers rows i (length rows)) }

-- ---- one solution
only_solution : (rows : List Row) (xs : List ℚ) → IsSolvedBy (length rows) (numbers rows) xs → IsOnlySolution rows xs
only_solution rows xs s = record {
  solves = solves_of rows xs s.count (s.met (number_at xs) (λ d b. refl));
  only = λ ys t. same_entries 0ℚ ys xs (t.count ∙ sym s.count) (λ i b. s.forced (number_at ys) (meets_of rows ys t) i (subst (λ (k : ℕ). i < k) t.count b));
}

-- ---- no solution, or more than one: besides a solution there is another one
product_less : (m x h : ℚ) → m *ℚ (x -ℚ h) ≡ m *ℚ x -ℚ 1ℚ *ℚ (m *ℚ h)
product_less m x h = ring rationals (m ∷ x ∷ h ∷ []) (search reading depth 30) tt

no_change : (m : ℚ) → m *ℚ 1ℚ -ℚ 1ℚ *ℚ (m *ℚ 0ℚ) ≡ m *ℚ 1ℚ
no_change m = ring rationals (m ∷ []) (search reading depth 30) tt

is_nothing : (x h : ℚ) → x -ℚ h ≡ x → h ≡ 0ℚ
is_nothing x h e = linear_eq (x ∷ h ∷ []) (eq e ∷ []) (search reading_of) tt tt

one_is_some : 1ℚ ≢ 0ℚ
one_is_some = ps_apart 1ℚ (ps_whole 0)

module _ (rows : List Row) (s : IsLoose (length rows) (numbers rows)) (xs : List ℚ) (h : SolvesRows rows xs) where
  abbrev other : List ℚ
  other = listed (length rows) (λ j. number_at xs j -ℚ s.free j)

  other_solves : SolvesRows rows other
  other_solves = solves_of rows other (listed-length (length rows) (λ j. number_at xs j -ℚ s.free j)) (λ i b.
      total_same (length rows) (λ j. numbers rows i j *ℚ number_at other j) (λ j. numbers rows i j *ℚ number_at xs j -ℚ 1ℚ *ℚ (numbers rows i j *ℚ s.free j))
      (λ j a. ap (λ (v : ℚ). numbers rows i j *ℚ v) (listed-at (length rows) (λ j. number_at xs j -ℚ s.free j) j a) ∙ product_less (numbers rows i j) (number_at xs j) (s.free j))
      ∙ total_less (length rows) (λ j. numbers rows i j *ℚ number_at xs j) (λ j. numbers rows i j *ℚ s.free j) 1ℚ
      ∙ ap (λ (v : ℚ). v -ℚ 1ℚ *ℚ total (length rows) (λ j. numbers rows i j *ℚ s.free j)) (meets_of rows xs h i b)
      ∙ ap (λ (v : ℚ). numbers rows i (length rows) *ℚ 1ℚ -ℚ 1ℚ *ℚ v) (s.homogeneous i b)
      ∙ no_change (numbers rows i (length rows)))

  differs : other ≡ xs → ⊥
  differs e = one_is_some (sym s.one ∙ is_nothing (number_at xs s.column) (s.free s.column)
      (sym (listed-at (length rows) (λ j. number_at xs j -ℚ s.free j) s.column s.within) ∙ ap (λ (ys : List ℚ). number_at ys s.column) e))

not_only : (rows : List Row) → IsLoose (length rows) (numbers rows) → (xs : List ℚ) → IsOnlySolution rows xs → ⊥
not_only rows s xs h = differs rows s xs h.solves (h.only (other rows s xs h.solves) (other_solves rows s xs h.solves))

-- ---- for every rule of which operations pass
pub one_solution : (passes : Passing) (rows : List Row) (xs : List ℚ) → IsSquare rows → table_list passes rows ≡ Ok (Some xs) → IsOnlySolution rows xs
one_solution passes rows xs square e = only_solution rows xs (table_says rows square (Some xs) (table_list_as passes rows (Some xs) e))

pub not_one_solution : (passes : Passing) (rows : List Row) → IsSquare rows → table_list passes rows ≡ Ok None → (xs : List ℚ) → IsOnlySolution rows xs → ⊥
not_one_solution passes rows square e = not_only rows (table_says rows square None (table_list_as passes rows None e))
