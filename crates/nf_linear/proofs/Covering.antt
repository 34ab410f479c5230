-- The sets of rows of each column: which numbers they tell to be 0, and how a step of the elimination changes them.
use Rattle.std.proofs.Common.{◌≡◌, ℕ, zero, suc, ◌+◌, ◌%◌, ◌<◌, ◌≤◌, List, [], ◌∷◌, length, set, get_or, Bool, true, false, ◌||◌, ⊎_elim, refl, sym, ap}
use Rattle.std.proofs.Common.{subst, ◌∙◌, length-set, arith, ◌==◌, Ok, Err}
use Rattle.nf_linear.proofs.Common.{bit_at, bit_or, cases_eq, cases_lt, get_or-set_same, get_or-set_other, eq-or-lt_of_le, ℚ, 0ℚ, same_Ok, Passing}
use Rattle.nf_linear.proofs.Common.{Quotient, Checked, checked, fold_checked, ◌>>=◌, number_at, is_zero, Row, row_at, less_unless, IsFree, IsSubset}
use Rattle.nf_linear.proofs.Common.{AreZeroUnless, Covers, AreSameUnless, spread, entry_less, clear_row, clear_unless, clear_each}
use Rattle.nf_linear.proofs.Skips.{set_same}
use Rattle.nf_linear.proofs.Bits.{within_left, within_right, free_within, not_free, bit_cases}

-- ---- numbers of a row
pub number-set_other : (row : Row) (k i : ℕ) (x : ℚ) → (i ≡ k → ⊥) → number_at (set row k x) i ≡ number_at row i
number-set_other [] k i x apart = refl
number-set_other (y ∷ row) zero zero x apart = absurd (apart refl)
number-set_other (y ∷ row) zero (suc i) x apart = refl
number-set_other (y ∷ row) (suc k) zero x apart = refl
number-set_other (y ∷ row) (suc k) (suc i) x apart = number-set_other row k i x (λ e. apart (ap suc e))

number-set_zero : (row : Row) (k i : ℕ) → number_at row i ≡ 0ℚ → number_at (set row k 0ℚ) i ≡ 0ℚ
number-set_zero [] k i e = e
number-set_zero (y ∷ row) zero zero e = refl
number-set_zero (y ∷ row) zero (suc i) e = e
number-set_zero (y ∷ row) (suc k) zero e = e
number-set_zero (y ∷ row) (suc k) (suc i) e = number-set_zero row k i e

-- one number of a row changes, and its column is put into the set
pub zero_kept : (word after column : ℕ) (row : Row) (x : ℚ) → IsSubset word after → bit_at after (column % 64) ≡ 1 → AreZeroUnless word row → AreZeroUnless after (set row column x)
zero_kept word after column row x within one zeros i free =
    ⊎_elim
    (λ (same : i ≡ column). absurd (not_free after i (ap (λ (k : ℕ). bit_at after (k % 64)) same ∙ one) free))
    (λ (apart : i ≡ column → ⊥). number-set_other row column i x apart ∙ zeros i (free_within word after i within free))
    (cases_eq i column)

-- ---- rows
row-set_other : (rows : List Row) (k i : ℕ) (x : Row) → (i ≡ k → ⊥) → row_at (set rows k x) i ≡ row_at rows i
row-set_other [] k i x apart = refl
row-set_other (y ∷ rows) zero zero x apart = absurd (apart refl)
row-set_other (y ∷ rows) zero (suc i) x apart = refl
row-set_other (y ∷ rows) (suc k) zero x apart = refl
row-set_other (y ∷ rows) (suc k) (suc i) x apart = row-set_other rows k i x (λ e. apart (ap suc e))

-- one row changes, and it is put into the set
same_kept : (word after i : ℕ) (rows before : List Row) (y : Row) → IsSubset word after → bit_at after (i % 64) ≡ 1 → AreSameUnless word rows before
    → AreSameUnless after (set rows i y) before
same_kept word after i rows before y within one same k free =
    ⊎_elim
    (λ (here : k ≡ i). absurd (not_free after k (ap (λ (n : ℕ). bit_at after (n % 64)) here ∙ one) free))
    (λ (apart : k ≡ i → ⊥). row-set_other rows i k y apart ∙ same k (free_within word after k within free))
    (cases_eq k i)

-- one row is cleared or stays, and it is put into the set if it is cleared
pub same_noted : (word after i : ℕ) (rows before : List Row) (y : Row) (is_cleared : Bool) → i < length rows → IsSubset word after → (is_cleared ≡ true → bit_at after (i % 64) ≡ 1)
    → (is_cleared ≡ false → y ≡ row_at rows i) → AreSameUnless word rows before → AreSameUnless after (set rows i y) before
same_noted word after i rows before y true b within put stays same = same_kept word after i rows before y within (put refl) same
same_noted word after i rows before y false b within put stays same =
    λ k free. ap (λ (l : List Row). row_at l k) (ap (set rows i) (stays refl) ∙ set_same rows i b) ∙ same k (free_within word after k within free)

pub past_rows : (rows : List Row) (i column : ℕ) → length rows ≤ i → number_at (row_at rows i) column ≡ 0ℚ
past_rows [] i column b = refl
past_rows (row ∷ rows) zero column b = absurd (omega arith)
past_rows (row ∷ rows) (suc i) column b = past_rows rows i column (omega arith)

-- a set that is read
pub set_read : (columns : List ℕ) (c word : ℕ) → c < length columns → word ≡ get_or columns c word → word ≡ get_or columns c 0
set_read [] c word b is = absurd (omega arith)
set_read (other ∷ columns) zero word b is = is
set_read (other ∷ columns) (suc c) word b is = set_read columns c word (omega arith) is

pub set_got : (columns : List ℕ) (c d : ℕ) → c < length columns → get_or columns c d ≡ get_or columns c 0
set_got [] c d b = absurd (omega arith)
set_got (other ∷ columns) zero d b = refl
set_got (other ∷ columns) (suc c) d b = set_got columns c d (omega arith)

-- ---- the sets of the columns of a row's numbers
pub sets_grow : (before columns : List ℕ) (k word : ℕ) → k < length columns → IsSubset (get_or columns k 0) word → ((c : ℕ) → IsSubset (get_or before c 0) (get_or columns c 0))
    → (c : ℕ) → IsSubset (get_or before c 0) (get_or (set columns k word) c 0)
sets_grow before columns k word b within grown c i =
    let so_far = grown c i in
    ⊎_elim
    (λ (same : c ≡ k).
    let now : get_or (set columns k word) c 0 ≡ word = ap (λ (n : ℕ). get_or (set columns k word) n 0) same ∙ get_or-set_same columns k word 0 b in
    let here : bit_at (get_or columns c 0) i ≤ bit_at word i = subst (λ (n : ℕ). bit_at (get_or columns n 0) i ≤ bit_at word i) (sym same) (within i) in
    subst (λ (w : ℕ). bit_at (get_or before c 0) i ≤ bit_at w i) (sym now) (omega arith))
    (λ (apart : c ≡ k → ⊥). subst (λ (w : ℕ). bit_at (get_or before c 0) i ≤ bit_at w i) (sym (get_or-set_other columns k c word 0 apart)) so_far)
    (cases_eq c k)

-- the set at one column gets the row, and up to the next one the numbers are 0
pub row_marked : (columns : List ℕ) (at i next word : ℕ) (row : Row) → at < length columns → bit_at word (i % 64) ≡ 1 → ((c : ℕ) → at + 1 ≤ c → c < next → number_at row c ≡ 0ℚ)
    → ((c : ℕ) → c < at → IsFree (get_or columns c 0) i → number_at row c ≡ 0ℚ) → (c : ℕ) → c < next → IsFree (get_or (set columns at word) c 0) i → number_at row c ≡ 0ℚ
row_marked columns at i next word row b one zeros so_far c before free =
    ⊎_elim
    (λ (same : c ≡ at).
    let now : get_or (set columns at word) c 0 ≡ word = ap (λ (n : ℕ). get_or (set columns at word) n 0) same ∙ get_or-set_same columns at word 0 b in
    absurd (not_free word i one (subst (λ (w : ℕ). IsFree w i) now free)))
    (λ (apart : c ≡ at → ⊥).
    ⊎_elim
    (λ (low : c < at). so_far c low (subst (λ (w : ℕ). IsFree w i) (get_or-set_other columns at c word 0 apart) free))
    (λ (high : at ≤ c). zeros c (⊎_elim (λ (same : at ≡ c). absurd (apart (sym same))) (λ (less : at < c). let e : at + 1 ≤ c = omega arith in e) (eq-or-lt_of_le high)) before)
    (cases_lt c at))
    (cases_eq c at)

-- ---- sets that are spread over the columns of entries
pub length-spread : (rows : ℕ) (entries : List (ℕ × ℚ)) (columns : List ℕ) → length (spread rows entries columns) ≡ length columns
length-spread rows [] columns = refl
length-spread rows (e ∷ entries) columns = length-spread rows entries (set columns e.0 (bit_or (get_or columns e.0 0) rows)) ∙ length-set columns e.0 (bit_or (get_or columns e.0 0) rows)

-- the sets only grow
one_grows : (rows k c i : ℕ) (columns : List ℕ) → c < length columns → IsFree (get_or (set columns k (bit_or (get_or columns k 0) rows)) c 0) i → IsFree (get_or columns c 0) i
one_grows rows k c i columns b free =
    ⊎_elim
    (λ (same : c ≡ k).
    let now : get_or (set columns k (bit_or (get_or columns k 0) rows)) c 0 ≡ bit_or (get_or columns k 0) rows =
    ap (λ (n : ℕ). get_or (set columns k (bit_or (get_or columns k 0) rows)) n 0) same
    ∙ get_or-set_same columns k (bit_or (get_or columns k 0) rows) 0 (subst (λ (n : ℕ). n < length columns) same b) in
    let whole : IsFree (bit_or (get_or columns k 0) rows) i = subst (λ (word : ℕ). IsFree word i) now free in
    subst (λ (n : ℕ). IsFree (get_or columns n 0) i) (sym same) (free_within (get_or columns k 0) (bit_or (get_or columns k 0) rows) i (within_left (get_or columns k 0) rows) whole))
    (λ (apart : c ≡ k → ⊥). subst (λ (word : ℕ). IsFree word i) (get_or-set_other columns k c (bit_or (get_or columns k 0) rows) 0 apart) free)
    (cases_eq c k)

pub spread_grows : (rows : ℕ) (entries : List (ℕ × ℚ)) (columns : List ℕ) (c i : ℕ) → c < length columns
    → IsFree (get_or (spread rows entries columns) c 0) i → IsFree (get_or columns c 0) i
spread_grows rows [] columns c i b free = free
spread_grows rows (e ∷ entries) columns c i b free =
    one_grows rows e.0 c i columns b
    (spread_grows rows entries (set columns e.0 (bit_or (get_or columns e.0 0) rows)) c i
    (subst (λ (n : ℕ). c < n) (sym (length-set columns e.0 (bit_or (get_or columns e.0 0) rows))) b) free)

-- ---- one row: of each column with a set, its number is 0 unless the set has the row
abbrev RowIsCovered : List ℕ → ℕ → Row → Type 0
RowIsCovered columns i row = (c : ℕ) → c < length columns → IsFree (get_or columns c 0) i → number_at row c ≡ 0ℚ

-- one number changes, and its column's set gets the row
one_covered : (rows k i : ℕ) (columns : List ℕ) (row : Row) (y : ℚ) → bit_at rows (i % 64) ≡ 1 → RowIsCovered columns i row
    → RowIsCovered (set columns k (bit_or (get_or columns k 0) rows)) i (set row k y)
one_covered rows k i columns row y one covered c b free =
    let inside : c < length columns = subst (λ (n : ℕ). c < n) (length-set columns k (bit_or (get_or columns k 0) rows)) b in
    ⊎_elim
    (λ (same : c ≡ k).
    let now : get_or (set columns k (bit_or (get_or columns k 0) rows)) c 0 ≡ bit_or (get_or columns k 0) rows =
    ap (λ (n : ℕ). get_or (set columns k (bit_or (get_or columns k 0) rows)) n 0) same
    ∙ get_or-set_same columns k (bit_or (get_or columns k 0) rows) 0 (subst (λ (n : ℕ). n < length columns) same inside) in
    let whole : IsFree (bit_or (get_or columns k 0) rows) i = subst (λ (word : ℕ). IsFree word i) now free in
    absurd (not_free rows i one (free_within rows (bit_or (get_or columns k 0) rows) i (within_right (get_or columns k 0) rows) whole)))
    (λ (apart : c ≡ k → ⊥).
    number-set_other row k c y apart ∙ covered c inside (subst (λ (word : ℕ). IsFree word i) (get_or-set_other columns k c (bit_or (get_or columns k 0) rows) 0 apart) free))
    (cases_eq c k)

module _ (passes : Passing) where
  fold_covered : (f : ℚ) (rows i : ℕ) (others : List (ℕ × ℚ)) (columns : List ℕ) (row after : Row) → bit_at rows (i % 64) ≡ 1 → RowIsCovered columns i row
      → fold_checked (entry_less passes f) row others ≡ Ok after → RowIsCovered (spread rows others columns) i after
  fold_covered f rows i [] columns row after one covered e = subst (RowIsCovered columns i) (same_Ok row after e) covered
  fold_covered f rows i (other ∷ others) columns row after one covered e =
      go (less_unless passes false f other.1 (number_at row other.0)) e
      (λ y h. fold_covered f rows i others (set columns other.0 (bit_or (get_or columns other.0 0) rows)) (set row other.0 y) after one
      (one_covered rows other.0 i columns row y one covered) h)
    where
      go : (r : Checked ℚ) → ((r >>= λ y. Ok (set row other.0 y)) >>= λ next. fold_checked (entry_less passes f) next others) ≡ Ok after
          → ((y : ℚ) → fold_checked (entry_less passes f) (set row other.0 y) others ≡ Ok after
          → RowIsCovered (spread rows others (set columns other.0 (bit_or (get_or columns other.0 0) rows))) i after)
          → RowIsCovered (spread rows others (set columns other.0 (bit_or (get_or columns other.0 0) rows))) i after
      go (Err p) h more = absurd (cc)
      go (Ok y) h more = more y h

  module _ (column pivot : ℕ) (own : ℚ) (later : List (ℕ × ℚ)) where
    row_covered : (rows i : ℕ) (columns : List ℕ) (row after : Row) → bit_at rows (i % 64) ≡ 1 → RowIsCovered columns i row
        → clear_row passes column own later row ≡ Ok after → RowIsCovered (spread rows later columns) i after
    row_covered rows i columns row after one covered e = go (checked passes Quotient (number_at row column) own) e
      where
        go : (r : Checked ℚ) → (r >>= λ f. fold_checked (entry_less passes f) (set row column 0ℚ) later) ≡ Ok after → RowIsCovered (spread rows later columns) i after
        go (Err p) h = absurd (cc)
        go (Ok f) h = fold_covered f rows i later columns (set row column 0ℚ) after one (λ c b free. number-set_zero row column c (covered c b free)) h

    -- each row of the whole clearing is that of its own
    record Split (r : Checked Row) (s : Checked (List Row)) (after : List Row) : Type 0 where
      head : Row
      rest : List Row
      is : after ≡ head ∷ rest
      first : r ≡ Ok head
      more : s ≡ Ok rest

    split : (r : Checked Row) (s : Checked (List Row)) (after : List Row) → (r >>= λ x. s >>= λ xs. Ok (x ∷ xs)) ≡ Ok after → Split r s after
    split (Err p) s after e = absurd (cc)
    split (Ok x) (Err p) after e = absurd (cc)
    split (Ok x) (Ok xs) after e = record { head = x; rest = xs; is = sym (same_Ok (x ∷ xs) after e); first = refl; more = refl }

    abbrev stays : ℕ → Row → Bool
    stays i row = i == pivot || is_zero (number_at row column)

    row_of : (k : ℕ) (rows after : List Row) (i : ℕ) → clear_each passes column pivot own later k rows ≡ Ok after → i < length rows
        → clear_unless passes (stays (k + i) (row_at rows i)) column own later (row_at rows i) ≡ Ok (row_at after i)
    row_of k [] after i e b = absurd (omega arith)
    row_of k (row ∷ rows) after zero e b =
        let s = split (clear_unless passes (stays k row) column own later row) (clear_each passes column pivot own later (suc k) rows) after e in
        let at : k + 0 ≡ k = omega arith in
        ap (λ (n : ℕ). clear_unless passes (stays n row) column own later row) at ∙ s.first ∙ ap (λ (l : List Row). Ok (row_at l 0)) (sym s.is)
    row_of k (row ∷ rows) after (suc i) e b =
        let s = split (clear_unless passes (stays k row) column own later row) (clear_each passes column pivot own later (suc k) rows) after e in
        let at : k + suc i ≡ suc k + i = omega arith in
        ap (λ (n : ℕ). clear_unless passes (stays n (row_at rows i)) column own later (row_at rows i)) at
        ∙ row_of (suc k) rows s.rest i s.more (omega arith)
        ∙ ap (λ (l : List Row). Ok (row_at l (suc i))) (sym s.is)

    row_past : (k : ℕ) (rows after : List Row) (i : ℕ) → clear_each passes column pivot own later k rows ≡ Ok after → length rows ≤ i → row_at after i ≡ row_at rows i
    row_past k [] after i e b = ap (λ (l : List Row). row_at l i) (sym (same_Ok [] after e))
    row_past k (row ∷ rows) after zero e b = absurd (omega arith)
    row_past k (row ∷ rows) after (suc i) e b =
        let s = split (clear_unless passes (stays k row) column own later row) (clear_each passes column pivot own later (suc k) rows) after e in
        ap (λ (l : List Row). row_at l (suc i)) s.is ∙ row_past (suc k) rows s.rest i s.more (omega arith)

    module _ (cleared : ℕ) (columns : List ℕ) (rows after : List Row) (covers : Covers columns rows) where
      kept : (i : ℕ) → row_at after i ≡ row_at rows i → RowIsCovered (spread cleared later columns) i (row_at after i)
      kept i same c b free =
          let inside : c < length columns = subst (λ (n : ℕ). c < n) (length-spread cleared later columns) b in
          ap (λ (r : Row). number_at r c) same ∙ covers c inside i (spread_grows cleared later columns c i inside free)

      changed : (i : ℕ) (t : Bool) → bit_at cleared (i % 64) ≡ 1 → clear_unless passes t column own later (row_at rows i) ≡ Ok (row_at after i)
          → RowIsCovered (spread cleared later columns) i (row_at after i)
      changed i true one e = kept i (sym (same_Ok (row_at rows i) (row_at after i) e))
      changed i false one e = row_covered cleared i columns (row_at rows i) (row_at after i) one (λ c b free. covers c b i free) e

      pub covered_after : clear_each passes column pivot own later 0 rows ≡ Ok after → AreSameUnless cleared after rows → Covers (spread cleared later columns) after
      covered_after e same c b i free =
          bit_cases cleared (i % 64) (number_at (row_at after i) c ≡ 0ℚ)
          (λ (out : bit_at cleared (i % 64) ≡ 0). kept i (same i out) c b free)
          (λ (one : bit_at cleared (i % 64) ≡ 1).
          ⊎_elim
          (λ (here : i < length rows). changed i (stays (0 + i) (row_at rows i)) one (row_of 0 rows after i e here) c b free)
          (λ (past : length rows ≤ i). kept i (row_past 0 rows after i e past) c b free)
          (cases_lt i (length rows)))
