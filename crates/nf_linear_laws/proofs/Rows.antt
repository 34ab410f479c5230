-- The effect of the table operations on rows, if no operation can pass.
use Rattle.std.proofs.Common.{◌≡◌, ◌≢◌, ℕ, zero, suc, ◌+◌, ◌<◌, List, [], ◌∷◌, ◌++◌, length, take, drop, Bool, true, false, cond, ◌||◌, refl, sym, ap, ◌∙◌}
use Rattle.std.proofs.Common.{arith, ◌==◌, Result, Ok}
use Rattle.nf_linear_laws.proofs.Common.{ℚ, 0ℚ, ◌-ℚ◌, ◌*ℚ◌, ◌/ℚ◌, ring, reading, reading_of, rationals, eq, eq_times, linear_eq, /ℚ-times, zero_of_test}
use Rattle.nf_linear_laws.proofs.Common.{Quotient, ◌>>=◌, number_at, is_zero, Row, row_at, less_unless, entries_less, clear_unless, clear_rows, never}
use Rattle.nf_frac_def.specs.Checked.{checked}
use Rattle.nf_linear_laws.proofs.Totals.{none_less}

pub bind_ok : {A B E : Type 0} (r : Result A E) (a : A) (f : A → Result B E) (s : Result B E) → r ≡ Ok a → f a ≡ s → (r >>= f) ≡ s
bind_ok r a f s h k = ap (λ (w : Result _ _). w >>= f) h ∙ k

-- ---- the resulting rows
abbrev pub less_at : Bool → ℚ → ℚ → ℚ → ℚ
less_at true f p x = x
less_at false f p x = x -ℚ f *ℚ p

abbrev pub less_row : ℚ → Row → Row → Row
less_row f [] row = []
less_row f (p ∷ pivot_row) [] = []
less_row f (p ∷ pivot_row) (x ∷ row) = less_at (is_zero p) f p x ∷ less_row f pivot_row row

abbrev pub with_zero : ℚ → ℕ → Row → Row → Row
with_zero f c pivot_row row = take c row ++ 0ℚ ∷ less_row f (drop (suc c) pivot_row) (drop (suc c) row)

abbrev pub kept_or_less : Bool → ℕ → Row → Row → Row
kept_or_less true c pivot_row row = row
kept_or_less false c pivot_row row = with_zero (number_at row c /ℚ number_at pivot_row c) c pivot_row row

abbrev pub rows_after : ℕ → ℕ → Row → ℕ → List Row → List Row
rows_after c p pivot_row k [] = []
rows_after c p pivot_row k (row ∷ rows) = kept_or_less (k == p || is_zero (number_at row c)) c pivot_row row ∷ rows_after c p pivot_row (suc k) rows

-- ---- the operations give these rows
less_exact : (b : Bool) (f p x : ℚ) → less_unless never b f p x ≡ Ok (less_at b f p x)
unfolding checked
less_exact true f p x = refl
less_exact false f p x = refl

entries_exact : (f : ℚ) (pivot_row row : Row) → entries_less never f pivot_row row ≡ Ok (less_row f pivot_row row)
entries_exact f [] row = refl
entries_exact f (p ∷ pivot_row) [] = refl
entries_exact f (p ∷ pivot_row) (x ∷ row) = bind_ok _ _ _ _ (less_exact (is_zero p) f p x) (bind_ok _ _ _ _ (entries_exact f pivot_row row) refl)

pub quotient_exact : (x y : ℚ) → checked never Quotient x y ≡ Ok (x /ℚ y)
unfolding checked
quotient_exact x y = refl

kept_exact : (b : Bool) (c : ℕ) (pivot_row row : Row) → clear_unless never b c pivot_row row ≡ Ok (kept_or_less b c pivot_row row)
kept_exact true c pivot_row row = refl
kept_exact false c pivot_row row = bind_ok _ _ _ _ (quotient_exact (number_at row c) (number_at pivot_row c))
    (bind_ok _ _ _ _ (entries_exact (number_at row c /ℚ number_at pivot_row c) (drop (suc c) pivot_row) (drop (suc c) row)) refl)

pub rows_exact : (c p : ℕ) (pivot_row : Row) (k : ℕ) (rows : List Row) → clear_rows never c p pivot_row k rows ≡ Ok (rows_after c p pivot_row k rows)
rows_exact c p pivot_row k [] = refl
rows_exact c p pivot_row k (row ∷ rows) =
    bind_ok _ _ _ _ (kept_exact (k == p || is_zero (number_at row c)) c pivot_row row) (bind_ok _ _ _ _ (rows_exact c p pivot_row (suc k) rows) refl)

-- ---- the numbers of these rows

kept : (x f p : ℚ) → p ≡ 0ℚ → x ≡ x -ℚ f *ℚ p
kept x f p e = linear_eq (x ∷ f ∷ p ∷ []) (eq_times f e ∷ []) (search reading_of) tt tt

no_times : (x p : ℚ) → x ≡ x -ℚ 0ℚ *ℚ p
no_times x p = ring rationals (x ∷ p ∷ []) (search reading depth 30) tt

less_all : (x q p : ℚ) → q *ℚ p ≡ x → x -ℚ q *ℚ p ≡ 0ℚ
less_all x q p e = linear_eq (x ∷ q ∷ p ∷ []) (eq e ∷ []) (search reading_of) tt tt

less_at-is : (b : Bool) (f p x : ℚ) → is_zero p ≡ b → less_at b f p x ≡ x -ℚ f *ℚ p
less_at-is true f p x e = kept x f p (zero_of_test p e)
less_at-is false f p x e = refl

less_row-at : (f : ℚ) (pivot_row row : Row) → length pivot_row ≡ length row → (j : ℕ) → number_at (less_row f pivot_row row) j ≡ number_at row j -ℚ f *ℚ number_at pivot_row j
less_row-at f [] [] e j = none_less f
less_row-at f [] (x ∷ row) e j = absurd (cc)
less_row-at f (p ∷ pivot_row) [] e j = absurd (cc)
less_row-at f (p ∷ pivot_row) (x ∷ row) e zero = less_at-is (is_zero p) f p x refl
less_row-at f (p ∷ pivot_row) (x ∷ row) e (suc j) = less_row-at f pivot_row row (cc) j

with_zero-at : (f : ℚ) (c : ℕ) (pivot_row row : Row) → length pivot_row ≡ length row → c < length row → ((j : ℕ) → j < c → number_at pivot_row j ≡ 0ℚ)
    → number_at row c -ℚ f *ℚ number_at pivot_row c ≡ 0ℚ → (j : ℕ) → number_at (with_zero f c pivot_row row) j ≡ number_at row j -ℚ f *ℚ number_at pivot_row j
with_zero-at f c [] [] e b early here j = absurd (omega arith)
with_zero-at f c [] (x ∷ row) e b early here j = absurd (cc)
with_zero-at f c (p ∷ pivot_row) [] e b early here j = absurd (cc)
with_zero-at f zero (p ∷ pivot_row) (x ∷ row) e b early here zero = sym here
with_zero-at f zero (p ∷ pivot_row) (x ∷ row) e b early here (suc j) = less_row-at f pivot_row row (cc) j
with_zero-at f (suc c) (p ∷ pivot_row) (x ∷ row) e b early here zero = kept x f p (early 0 (omega arith))
with_zero-at f (suc c) (p ∷ pivot_row) (x ∷ row) e b early here (suc j) = with_zero-at f c pivot_row row (cc) (omega arith) (λ i h. early (suc i) (omega arith)) here j

less_row-length : (f : ℚ) (pivot_row row : Row) → length pivot_row ≡ length row → length (less_row f pivot_row row) ≡ length row
less_row-length f [] [] e = refl
less_row-length f [] (x ∷ row) e = absurd (cc)
less_row-length f (p ∷ pivot_row) [] e = absurd (cc)
less_row-length f (p ∷ pivot_row) (x ∷ row) e = ap suc (less_row-length f pivot_row row (cc))

with_zero-length : (f : ℚ) (c : ℕ) (pivot_row row : Row) → length pivot_row ≡ length row → c < length row → length (with_zero f c pivot_row row) ≡ length row
with_zero-length f c [] [] e b = absurd (omega arith)
with_zero-length f c [] (x ∷ row) e b = absurd (cc)
with_zero-length f c (p ∷ pivot_row) [] e b = absurd (cc)
with_zero-length f zero (p ∷ pivot_row) (x ∷ row) e b = ap suc (less_row-length f pivot_row row (cc))
with_zero-length f (suc c) (p ∷ pivot_row) (x ∷ row) e b = ap suc (with_zero-length f c pivot_row row (cc) (omega arith))

module _ (c : ℕ) (pivot_row row : Row) (same : length pivot_row ≡ length row) (inside : c < length row)
    (early : (j : ℕ) → j < c → number_at pivot_row j ≡ 0ℚ) (some : number_at pivot_row c ≢ 0ℚ) where
  here : number_at row c -ℚ (number_at row c /ℚ number_at pivot_row c) *ℚ number_at pivot_row c ≡ 0ℚ
  here = less_all (number_at row c) (number_at row c /ℚ number_at pivot_row c) (number_at pivot_row c) (/ℚ-times (number_at row c) (number_at pivot_row c) some)

  pub kept_or_less-at : (b : Bool) (j : ℕ) → number_at (kept_or_less b c pivot_row row) j ≡ number_at row j -ℚ cond b 0ℚ
      (number_at row c /ℚ number_at pivot_row c) *ℚ number_at pivot_row j
  kept_or_less-at true j = no_times (number_at row j) (number_at pivot_row j)
  kept_or_less-at false j = with_zero-at (number_at row c /ℚ number_at pivot_row c) c pivot_row row same inside early here j

  pub kept_or_less-clear : (b : Bool) → (b ≡ true → number_at row c ≡ 0ℚ) → number_at (kept_or_less b c pivot_row row) c ≡ 0ℚ
  kept_or_less-clear true h = h refl
  kept_or_less-clear false h = kept_or_less-at false c ∙ here

  pub kept_or_less-length : (b : Bool) → length (kept_or_less b c pivot_row row) ≡ length row
  kept_or_less-length true = refl
  kept_or_less-length false = with_zero-length (number_at row c /ℚ number_at pivot_row c) c pivot_row row same inside

pub rows_after-length : (c p : ℕ) (pivot_row : Row) (k : ℕ) (rows : List Row) → length (rows_after c p pivot_row k rows) ≡ length rows
rows_after-length c p pivot_row k [] = refl
rows_after-length c p pivot_row k (row ∷ rows) = ap suc (rows_after-length c p pivot_row (suc k) rows)

pub rows_after-at : (c p : ℕ) (pivot_row : Row) (k : ℕ) (rows : List Row) (i j : ℕ) → i < length rows → j ≡ k + i
    → row_at (rows_after c p pivot_row k rows) i ≡ kept_or_less (j == p || is_zero (number_at (row_at rows i) c)) c pivot_row (row_at rows i)
rows_after-at c p pivot_row k [] i j b e = absurd (omega arith)
rows_after-at c p pivot_row k (row ∷ rows) zero j b e =
    let same : k ≡ j = omega arith in ap (λ (m : ℕ). kept_or_less (m == p || is_zero (number_at row c)) c pivot_row row) same
rows_after-at c p pivot_row k (row ∷ rows) (suc i) j b e = rows_after-at c p pivot_row (suc k) rows i j (omega arith) (omega arith)
