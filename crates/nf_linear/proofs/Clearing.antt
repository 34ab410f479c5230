-- Rows cleared one by one: those so far stand before what comes of the rest.
use Rattle.std.proofs.Common.{◌≡◌, ℕ, zero, suc, ◌+◌, ◌<◌, ◌≤◌, List, [], ◌∷◌, ◌++◌, length, set, take, drop, get_or, Bool, true, false, ◌||◌, refl, sym}
use Rattle.std.proofs.Common.{ap, subst, ◌∙◌, add-one, length-drop, arith, ◌==◌, if◌then◌else◌, Ok, Err}
use Rattle.nf_linear.proofs.Common.{AllByRecursion, drop_of_length-le, ℚ, Passing, PassedAt, Part, Checked, at_part, ◌>>=◌, with_front, part_ok, number_at}
use Rattle.nf_linear.proofs.Common.{is_zero, Row, row_at, IsSquare, some_from, clear_unless, clear_each}
use Rattle.nf_linear_def.specs.Table as Lists
use Rattle.nf_linear.proofs.Fronts.{take_set, drop_set, take_whole, first_before, one_before, stopped, stopped_before}
use Rattle.nf_linear.proofs.Sparse.{clear_row-is}
use Rattle.nf_linear.proofs.Columns.{drop_row}

drop_more_row : (rows before : List Row) (i : ℕ) → drop i rows ≡ drop i before → drop (suc i) rows ≡ drop (suc i) before
drop_more_row rows before i e = sym (next rows i) ∙ ap (drop 1) e ∙ next before i
  where
    next : (l : List Row) (i : ℕ) → drop 1 (drop i l) ≡ drop (suc i) l
    next [] zero = refl
    next [] (suc i) = refl
    next (x ∷ l) zero = refl
    next (x ∷ l) (suc i) = next l i

pub row_read : (rows : List Row) (i : ℕ) (row : Row) → i < length rows → row ≡ get_or rows i row → row ≡ row_at rows i
row_read [] i row b e = absurd (omega arith)
row_read (x ∷ rows) zero row b e = e
row_read (x ∷ rows) (suc i) row b e = row_read rows i row (omega arith) e

pub row_got : (rows : List Row) (i : ℕ) (d : Row) → i < length rows → get_or rows i d ≡ row_at rows i
row_got [] i d b = absurd (omega arith)
row_got (x ∷ rows) zero d b = refl
row_got (x ∷ rows) (suc i) d b = row_got rows i d (omega arith)

pub within_row : (rows : List Row) (i column : ℕ) (d : Row) → IsSquare rows → i < length rows → column < length rows → column < length (get_or rows i d)
within_row rows i column d square b c =
    let wide = square i b in
    let same : length (get_or rows i d) ≡ length (row_at rows i) = ap length (row_got rows i d b) in
    omega arith

head_is : (x y : Row) (xs ys : List Row) → x ∷ xs ≡ y ∷ ys → x ≡ y
head_is x y xs ys e = cc

module _ (passes : Passing) (column pivot : ℕ) (own : ℚ) (later : List (ℕ × ℚ)) where
  abbrev stays : ℕ → Row → Bool
  stays i row = i == pivot || is_zero (number_at row column)

  abbrev pub step : ℕ → Row → Checked Row
  step i row = clear_unless passes (stays i row) column own later row

  pub record ClearedSoFar (before rows : List Row) (i : ℕ) : Type 0 where
    pub rest : drop i rows ≡ drop i before
    pub same : at_part Part.Table (with_front (take i rows) (clear_each passes column pivot own later i (drop i rows))) ≡ at_part Part.Table
        (clear_each passes column pivot own later 0 before)

  pub cleared_first : (before : List Row) → ClearedSoFar before before 0
  cleared_first before = record { rest = refl; same = ap (at_part Part.Table) (first_before (clear_each passes column pivot own later 0 before)) }

  module _ (before rows : List Row) (i : ℕ) (b : i < length rows) (h : ClearedSoFar before rows i) where
    pub row_before : i < length before → row_at rows i ≡ row_at before i
    row_before c = head_is _ _ _ _ (sym (drop_row rows i b) ∙ h.rest ∙ drop_row before i c)

    abbrev more : Row → Checked (List Row)
    more r = clear_each passes column pivot own later (suc i) (drop (suc i) rows) >>= λ rs. Ok (r ∷ rs)

    opened : clear_each passes column pivot own later i (drop i rows) ≡ (step i (row_at rows i) >>= more)
    opened = ap (clear_each passes column pivot own later i) (drop_row rows i b)

    pub cleared_stops : (q : PassedAt ℚ) → Err q ≡ at_part Part.Table (step i (row_at rows i)) → Err q ≡ at_part Part.Table (clear_each passes column pivot own later 0 before)
    cleared_stops q e =
        sym (stopped_before Part.Table (step i (row_at rows i) >>= more) (take i rows) q (stopped Part.Table (step i (row_at rows i)) more q (sym e)))
        ∙ ap (λ (r : Checked (List Row)). at_part Part.Table (with_front (take i rows) r)) (sym opened) ∙ h.same

    pub cleared_more : (y : Row) → Ok y ≡ at_part Part.Table (step i (row_at rows i)) → ClearedSoFar before (set rows i y) (i + 1)
    cleared_more y e =
        let n : i + 1 ≡ suc i = add-one i in
        let gives : step i (row_at rows i) ≡ Ok y = part_ok Part.Table (step i (row_at rows i)) y e in
        subst (ClearedSoFar before (set rows i y)) (sym n) (record {
          rest = drop_set rows i y ∙ drop_more_row rows before i h.rest;
          same = ap (at_part Part.Table)
              (ap (λ (l : List Row). with_front l (clear_each passes column pivot own later (suc i) (drop (suc i) (set rows i y)))) (take_set rows i y b)
              ∙ ap (λ (l : List Row). with_front (take i rows ++ y ∷ []) (clear_each passes column pivot own later (suc i) l)) (drop_set rows i y)
              ∙ sym (one_before (clear_each passes column pivot own later (suc i) (drop (suc i) rows)) (take i rows) y)
              ∙ ap (λ (r : Checked Row). with_front (take i rows) (r >>= more)) (sym gives)
              ∙ ap (with_front (take i rows)) (sym opened))
              ∙ h.same;
        })

  pub cleared_all : (before rows : List Row) (i : ℕ) → length rows ≤ i → ClearedSoFar before rows i → Ok rows ≡ at_part Part.Table (clear_each passes column pivot own later 0 before)
  cleared_all before rows i b h =
      ap Ok (sym (take_whole rows i b))
      ∙ ap (λ (l : List Row). at_part Part.Table (with_front (take i rows) (clear_each passes column pivot own later i l))) (sym (drop_of_length-le rows b)) ∙ h.same

-- ---- this is what the table list does
module _ (passes : Passing) (column pivot : ℕ) (pivot_row : Row) where
  unless_is : (t : Bool) (row : Row) → length pivot_row ≡ length row → column < length row
      → clear_unless passes t column (number_at pivot_row column) (some_from (suc column) (drop (suc column) pivot_row)) row ≡ Lists.clear_unless passes t column pivot_row row
  unless_is true row e b = refl
  unless_is false row e b = clear_row-is passes column pivot_row row e b

  pub clear_each-is : (i : ℕ) (rows : List Row) → ((j : ℕ) → j < length rows → length pivot_row ≡ length (row_at rows j)) → column < length pivot_row
      → clear_each passes column pivot (number_at pivot_row column) (some_from (suc column) (drop (suc column) pivot_row)) i rows ≡ Lists.clear_rows passes column pivot pivot_row i rows
  clear_each-is i [] e b = refl
  clear_each-is i (row ∷ rows) e b =
      let long : length pivot_row ≡ length row = e 0 (omega arith) in
      ap (λ (r : Checked Row). r >>= λ r. clear_each passes column pivot (number_at pivot_row column) (some_from (suc column) (drop (suc column) pivot_row))
      (suc i) rows >>= λ rs. Ok (r ∷ rs))
      (unless_is (i == pivot || is_zero (number_at row column)) row long (omega arith))
      ∙ ap (λ (s : Checked (List Row)). Lists.clear_unless passes (i == pivot || is_zero (number_at row column)) column pivot_row row >>= λ r. s >>= λ rs. Ok (r ∷ rs))
      (clear_each-is (suc i) rows (λ j c. e (suc j) (omega arith)) b)

-- the entries other than 0 lie inside the row
pub some_fit : (k n : ℕ) (row : Row) → k + length row ≡ n → AllByRecursion (λ (other : ℕ × ℚ). other.0 < n) (some_from k row)
some_fit k n [] e = tt
some_fit k n (p ∷ row) e = by_test (is_zero p) (some_fit (suc k) n row (omega arith))
  where
    by_test : (t : Bool) → AllByRecursion (λ (other : ℕ × ℚ). other.0 < n) (some_from (suc k) row)
        → AllByRecursion (λ (other : ℕ × ℚ). other.0 < n) (if t then some_from (suc k) row else (k, p) ∷ some_from (suc k) row)
    by_test true h = h
    by_test false h = (omega arith, h)

module _ (rows : List Row) (pivot column : ℕ) (square : IsSquare rows) (p : pivot < length rows) (c : column < length rows) (own : ℚ) (later : List (ℕ × ℚ))
    (l : later ≡ some_from (column + 1) (drop (column + 1) (row_at rows pivot))) where
  pub later_fit : (i : ℕ) → i < length rows → AllByRecursion (λ (other : ℕ × ℚ). other.0 < length (row_at rows i)) later
  later_fit i b =
      subst (λ (n : ℕ). AllByRecursion (λ (other : ℕ × ℚ). other.0 < n) later) (sym (square i b))
      (subst (AllByRecursion (λ (other : ℕ × ℚ). other.0 < suc (length rows))) (sym l)
      (some_fit (column + 1) (suc (length rows)) (drop (column + 1) (row_at rows pivot)) (omega (arith, length-drop (column + 1) (row_at rows pivot), square pivot p))))

  pub eliminated : (passes : Passing) → own ≡ number_at (row_at rows pivot) column
      → clear_each passes column pivot own later 0 rows ≡ Lists.clear_rows passes column pivot (row_at rows pivot) 0 rows
  eliminated passes o =
      ap (λ (x : ℚ). clear_each passes column pivot x later 0 rows) o
      ∙ ap (λ (others : List (ℕ × ℚ)). clear_each passes column pivot (number_at (row_at rows pivot) column) others 0 rows)
      (l ∙ ap (λ (k : ℕ). some_from k (drop k (row_at rows pivot))) (add-one column))
      ∙ clear_each-is passes column pivot (row_at rows pivot) 0 rows (λ j b. square pivot p ∙ sym (square j b)) (omega (arith, square pivot p))
