-- Numbers that are 0 are passed over: rows without an entry in a column, and columns of a row.
use Rattle.std.proofs.Common.{◌≡◌, ℕ, zero, suc, ◌+◌, ◌-◌, ◌<◌, ◌≤◌, List, [], ◌∷◌, length, set, drop, Bool, true, false, not, ◌&&◌, ◌||◌, Ok, refl, sym}
use Rattle.std.proofs.Common.{ap, subst, ◌∙◌, add-zero, arith, ◌==◌, if◌then◌else◌}
use Rattle.nf_linear.proofs.Common.{list_any, or-true, ℚ, 0ℚ, Passing, at_part, number_at, is_zero, Row, row_at, pivot_from, is_zero-at, some_from}
use Rattle.nf_linear.proofs.Common.{clear_unless}
use Rattle.nf_frac_def.specs.declared.Part.TheVariants as Part
use Rattle.nf_linear.proofs.Columns.{pivot_later}
use Rattle.nf_linear.proofs.Clearing.{ClearedSoFar, cleared_more, row_before}
use Rattle.nf_linear.proofs.Sparse.{drop_one}

and_false : (a : Bool) → false ≡ (a && false)
and_false true = refl
and_false false = refl

pub set_same : (rows : List Row) (i : ℕ) → i < length rows → set rows i (row_at rows i) ≡ rows
set_same [] i b = refl
set_same (row ∷ rows) zero b = refl
set_same (row ∷ rows) (suc i) b = ap (λ (l : List Row). row ∷ l) (set_same rows i (omega arith))

one_later : (i d : ℕ) → i + suc d ≡ i + 1 + d
one_later i d = omega arith

the_way : (i j : ℕ) → i ≤ j → i + (j - i) ≡ j
the_way i j b = omega arith

-- ---- entries of a row
some_skip : (d : ℕ) (xs : Row) (i : ℕ) → i + d ≤ length xs → ((k : ℕ) → i ≤ k → k < i + d → number_at xs k ≡ 0ℚ) → some_from (i + d) (drop (i + d) xs) ≡ some_from i (drop i xs)
some_skip zero xs i b zeros = ap (λ (k : ℕ). some_from k (drop k xs)) (add-zero i)
some_skip (suc d) xs i b zeros =
    let next : suc i + d ≡ i + suc d = omega arith in
    let here : is_zero (number_at xs i) ≡ true = is_zero-at (number_at xs i) (zeros i (omega arith) (omega arith)) in
    ap (λ (k : ℕ). some_from k (drop k xs)) (sym next)
    ∙ some_skip d xs (suc i) (omega arith) (λ k from before. zeros k (omega arith) (omega arith))
    ∙ sym (ap (some_from i) (drop_one xs i (omega arith))
    ∙ ap (λ (t : Bool). if t then some_from (suc i) (drop (suc i) xs) else (i, number_at xs i) ∷ some_from (suc i) (drop (suc i) xs)) here)

pub some_skipped : (xs : Row) (i j : ℕ) → i ≤ j → j ≤ length xs → ((k : ℕ) → i ≤ k → k < j → number_at xs k ≡ 0ℚ) → some_from j (drop j xs) ≡ some_from i (drop i xs)
some_skipped xs i j b end zeros =
    let way = the_way i j b in
    ap (λ (k : ℕ). some_from k (drop k xs)) (sym way) ∙ some_skip (j - i) xs i (omega arith) (λ k from before. zeros k from (omega arith))

-- ---- rows in the search for a pivot
not_candidate : (rows : List Row) (pivots : List ℕ) (c i : ℕ) → number_at (row_at rows i) c ≡ 0ℚ
    → false ≡ (not (list_any (λ pivot. pivot == i) pivots) && not (is_zero (number_at (row_at rows i) c)))
not_candidate rows pivots c i e =
    and_false (not (list_any (λ pivot. pivot == i) pivots)) ∙ ap (λ (t : Bool). not (list_any (λ pivot. pivot == i) pivots) && not t) (sym (is_zero-at (number_at (row_at rows i) c) e))

pivot_skip : (d : ℕ) (rows : List Row) (pivots : List ℕ) (c i : ℕ) → i + d ≤ length rows → ((k : ℕ) → i ≤ k → k < i + d → number_at (row_at rows k) c ≡ 0ℚ)
    → pivot_from (i + d) (drop (i + d) rows) pivots c ≡ pivot_from i (drop i rows) pivots c
pivot_skip zero rows pivots c i b zeros = ap (λ (k : ℕ). pivot_from k (drop k rows) pivots c) (add-zero i)
pivot_skip (suc d) rows pivots c i b zeros =
    ap (λ (k : ℕ). pivot_from k (drop k rows) pivots c) (one_later i d)
    ∙ pivot_skip d rows pivots c (i + 1) (omega arith) (λ k from before. zeros k (omega arith) (omega arith))
    ∙ pivot_later rows pivots c i false (omega arith) (not_candidate rows pivots c i (zeros i (omega arith) (omega arith))) refl

pub pivot_skipped : (rows : List Row) (pivots : List ℕ) (c i j : ℕ) → i ≤ j → j ≤ length rows → ((k : ℕ) → i ≤ k → k < j → number_at (row_at rows k) c ≡ 0ℚ)
    → pivot_from j (drop j rows) pivots c ≡ pivot_from i (drop i rows) pivots c
pivot_skipped rows pivots c i j b end zeros =
    let way = the_way i j b in
    ap (λ (k : ℕ). pivot_from k (drop k rows) pivots c) (sym way) ∙ pivot_skip (j - i) rows pivots c i (omega arith) (λ k from before. zeros k from (omega arith))

-- ---- rows that are cleared in a column
module _ (passes : Passing) (column pivot : ℕ) (own : ℚ) (later : List (ℕ × ℚ)) where
  row_stays : (i : ℕ) (row : Row) → number_at row column ≡ 0ℚ → Ok row ≡ at_part Part.Table (clear_unless passes (i == pivot || is_zero (number_at row column)) column own later row)
  row_stays i row e =
      sym (ap (λ (t : Bool). at_part Part.Table (clear_unless passes t column own later row))
      (ap (λ (t : Bool). i == pivot || t) (is_zero-at (number_at row column) e) ∙ or-true (i == pivot)))

  stays_one : (before rows : List Row) (i : ℕ) → i < length rows → length rows ≡ length before → number_at (row_at before i) column ≡ 0ℚ
      → ClearedSoFar passes column pivot own later before rows i → ClearedSoFar passes column pivot own later before rows (i + 1)
  stays_one before rows i b same e h =
      let row : row_at rows i ≡ row_at before i = row_before passes column pivot own later before rows i b h (omega arith) in
      subst (λ (l : List Row). ClearedSoFar passes column pivot own later before l (i + 1)) (set_same rows i b)
      (cleared_more passes column pivot own later before rows i b h (row_at rows i) (row_stays i (row_at rows i) (ap (λ (r : Row). number_at r column) row ∙ e)))

  cleared_skip : (d : ℕ) (before rows : List Row) (i : ℕ) → i + d ≤ length rows → length rows ≡ length before
      → ((k : ℕ) → i ≤ k → k < i + d → number_at (row_at before k) column ≡ 0ℚ)
      → ClearedSoFar passes column pivot own later before rows i → ClearedSoFar passes column pivot own later before rows (i + d)
  cleared_skip zero before rows i b same zeros h = subst (ClearedSoFar passes column pivot own later before rows) (sym (add-zero i)) h
  cleared_skip (suc d) before rows i b same zeros h =
      subst (ClearedSoFar passes column pivot own later before rows) (sym (one_later i d))
      (cleared_skip d before rows (i + 1) (omega arith) same (λ k from past. zeros k (omega arith) (omega arith))
      (stays_one before rows i (omega arith) same (zeros i (omega arith) (omega arith)) h))

  pub cleared_skipped : (before rows : List Row) (i j : ℕ) → i ≤ j → j ≤ length rows → length rows ≡ length before
      → ((k : ℕ) → i ≤ k → k < j → number_at (row_at before k) column ≡ 0ℚ)
      → ClearedSoFar passes column pivot own later before rows i → ClearedSoFar passes column pivot own later before rows j
  cleared_skipped before rows i j b end same zeros h =
      let way = the_way i j b in
      subst (ClearedSoFar passes column pivot own later before rows) way
      (cleared_skip (j - i) before rows i (omega arith) same (λ k from past. zeros k from (omega arith)) h)
