-- Rows and their numbers, tables and their rows, where one of them changes.
use Rattle.std.proofs.Common.{◌≡◌, ◌≢◌, ℕ, zero, suc, ◌+◌, ◌<◌, ◌≤◌, List, [], ◌∷◌, ◌++◌, length, set, replicate, ⊎_elim, Bool, true, false, eqb, refl, sym}
use Rattle.std.proofs.Common.{ap, subst, ◌∙◌, arith, slice_get, unwrap_or, if◌then◌else◌}
use Rattle.nf_thin_one.proofs.Common.{length-set, eqb_tells, ℚ, 0ℚ, number_at, number_at-zeros, Row, row_at, ChangesRow, IsFilledTo}

-- ---- one element of a list
pub got-same : {A : Type 0} (xs : List A) (i : ℕ) (x d : A) → i < length xs → unwrap_or (slice_get (set xs i x) i) d ≡ x
got-same [] i x d h = absurd (omega arith)
got-same (y ∷ xs) zero x d h = refl
got-same (y ∷ xs) (suc i) x d h = got-same xs i x d (omega arith)

pub got-other : {A : Type 0} (xs : List A) (i k : ℕ) (x d : A) → k ≢ i → unwrap_or (slice_get (set xs i x) k) d ≡ unwrap_or (slice_get xs k) d
got-other [] i k x d n = refl
got-other (y ∷ xs) zero zero x d n = absurd (n refl)
got-other (y ∷ xs) zero (suc k) x d n = refl
got-other (y ∷ xs) (suc i) zero x d n = refl
got-other (y ∷ xs) (suc i) (suc k) x d n = got-other xs i k x d (λ e. n (ap suc e))

pub got-past : {A : Type 0} (xs ys : List A) (i j : ℕ) (d : A) → i ≡ length xs + j → unwrap_or (slice_get (xs ++ ys) i) d ≡ unwrap_or (slice_get ys j) d
got-past [] ys i j d e = ap (λ (k : ℕ). unwrap_or (slice_get ys k) d) (let s : i ≡ j = omega arith in s)
got-past (x ∷ xs) ys zero j d e = absurd (omega arith)
got-past (x ∷ xs) ys (suc i) j d e = got-past xs ys i j d (omega arith)

pub length-copies : {A : Type 0} (n : ℕ) (x : A) → length (replicate n x) ≡ n
length-copies zero x = refl
length-copies (suc n) x = ap suc (length-copies n x)

pub got-copies : {A : Type 0} (n i : ℕ) (x d : A) → i < n → unwrap_or (slice_get (replicate n x) i) d ≡ x
got-copies zero i x d h = absurd (omega arith)
got-copies (suc n) zero x d h = refl
got-copies (suc n) (suc i) x d h = got-copies n i x d (omega arith)

-- a row of zeros, for so many unknowns
abbrev pub blank_row : ℕ → Row
blank_row size = replicate (size + 1) 0ℚ

-- one number in a row of zeros
pub alone : (n w v : ℕ) (x : ℚ) → w < n → number_at (set (replicate n 0ℚ) w x) v ≡ (if eqb v w then x else 0ℚ)
alone n w v x h = ⊎_elim
    (λ (s : (eqb v w ≡ true) × (v ≡ w)). ap (number_at (set (replicate n 0ℚ) w x)) s.1
    ∙ (got-same (replicate n 0ℚ) w x 0ℚ (let l : length (replicate n 0ℚ) ≡ n = length-copies n 0ℚ in omega arith) ∙ ap (λ (b : Bool). if b then x else 0ℚ) (sym s.0)))
    (λ (s : (eqb v w ≡ false) × (v ≢ w)). got-other (replicate n 0ℚ) w v x 0ℚ s.1 ∙ (number_at-zeros n v ∙ ap (λ (b : Bool). if b then x else 0ℚ) (sym s.0)))
    (eqb_tells v w)

pub same_rows : (rows others : List Row) → length rows ≡ length others → ((k : ℕ) → k < length rows → row_at rows k ≡ row_at others k) → rows ≡ others
same_rows [] [] e h = refl
same_rows [] (row ∷ others) e h = absurd (cc)
same_rows (row ∷ rows) [] e h = absurd (cc)
same_rows (row ∷ rows) (other ∷ others) e h =
    let a : row ≡ other = h 0 (omega arith) in
    let b : rows ≡ others = same_rows rows others (cc) (λ k c. h (suc k) (omega arith)) in
    cc

-- ---- one row of a table
pub set_changes : (old new : List Row) (i : ℕ) (row : Row) → i < length old → new ≡ set old i row → ChangesRow old new i row
set_changes old new i row h e = subst (λ (t : List Row). ChangesRow old t i row) (sym e) (record {
  here = got-same old i row [] h;
  others = λ k n. got-other old i k row [] n;
  count = length-set old i row;
})

pub none_changes : (old : List Row) (i : ℕ) → ChangesRow old old i (row_at old i)
none_changes old i = record { here = refl; others = λ k n. refl; count = refl }

pub then_changes : (old now new : List Row) (i : ℕ) (before row : Row) → ChangesRow old now i before → ChangesRow now new i row → ChangesRow old new i row
then_changes old now new i before row a b = record {
  here = b.here;
  others = λ k n. b.others k n ∙ a.others k n;
  count = b.count ∙ a.count;
}

-- one number more of a row that has changed
pub number_changes : (old now new : List Row) (i j : ℕ) (before : Row) (x : ℚ) → i < length old → ChangesRow old now i before → new ≡ set now i (set (row_at now i) j x)
    → ChangesRow old new i (set before j x)
number_changes old now new i j before x h a e =
    then_changes old now new i before (set before j x) a
    (set_changes now new i (set before j x) (let c = a.count in omega arith) (e ∙ ap (λ (r : Row). set now i (set r j x)) a.here))

-- two numbers of a row, one after the other
pub two_changes : (old once twice : List Row) (i j k : ℕ) (x y : ℚ) → i < length old → once ≡ set old i (set (row_at old i) j x) → twice ≡ set once i (set (row_at once i) k y)
    → ChangesRow old twice i (set (set (row_at old i) j x) k y)
two_changes old once twice i j k x y h a b =
    number_changes old once twice i k (set (row_at old i) j x) y h (number_changes old old once i j (row_at old i) x h (none_changes old i) a) b

-- no row is gone
pub still_inside : (old once : List Row) (i n : ℕ) (row : Row) → n < length old → once ≡ set old i row → n < length once
still_inside old once i n row h e = subst (λ (k : ℕ). n < k) (sym (ap (λ (l : List Row). length l) e ∙ length-set old i row)) h

-- 0 that is set where it stands already
pub set_zero : (row : Row) (j : ℕ) → number_at row j ≡ 0ℚ → set row j 0ℚ ≡ row
set_zero [] j e = refl
set_zero (y ∷ row) zero e = ap (λ (z : ℚ). z ∷ row) (sym e)
set_zero (y ∷ row) (suc j) e = ap (λ (l : Row). y ∷ l) (set_zero row j e)

-- ---- row after row
pub filled_first : (rows table : List Row) → length table ≡ length rows → ((k : ℕ) → k < length table → row_at table k ≡ replicate (length rows + 1) 0ℚ) → IsFilledTo rows table 0
filled_first rows table e h = record { count = e; before = λ k b. absurd (omega arith); after = λ k low b. h k b }

pub filled_more : (rows table new : List Row) (i : ℕ) (row : Row) → IsFilledTo rows table i → ChangesRow table new i row → row ≡ row_at rows i → IsFilledTo rows new (i + 1)
filled_more rows table new i row f c e = record {
  count = c.count ∙ f.count;
  before = λ k b. ⊎_elim
      (λ (s : (eqb k i ≡ true) × (k ≡ i)). ap (row_at new) s.1 ∙ (c.here ∙ (e ∙ sym (ap (row_at rows) s.1))))
      (λ (s : (eqb k i ≡ false) × (k ≢ i)). c.others k s.1 ∙ f.before k (let n = s.1 in omega arith))
      (eqb_tells k i);
  after = λ k low b. c.others k (λ s. absurd (omega arith)) ∙ f.after k (omega arith) (let n = c.count in omega arith);
}

pub filled_all : (rows table : List Row) (i : ℕ) → IsFilledTo rows table i → length table ≤ i → table ≡ rows
filled_all rows table i f h = same_rows table rows f.count (λ k b. f.before k (omega arith))
