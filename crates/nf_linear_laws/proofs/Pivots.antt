-- The pivot of a column, and the set of pivot rows: if there are as many different ones as rows, they are all rows.
use Rattle.std.proofs.Common.{◌≡◌, ◌≢◌, ℕ, zero, suc, ◌+◌, ◌<◌, ◌≤◌, List, [], ◌∷◌, length, get_or, ⊎_elim, Bool, true, false, not, ◌&&◌, ◌||◌, eqb, refl}
use Rattle.std.proofs.Common.{sym, subst, ◌∙◌, arith, ◌==◌, if◌then◌else◌, Option, Some, None}
use Rattle.nf_linear_laws.proofs.Common.{eqb_tells, eq-eqb, ne_eqb, ℚ, 0ℚ, ≤ℚ_of_same, number_at, is_zero, Row, row_at, pivot_from}
use Rattle.std.specs.List.{list_any}
use Rattle.std.proofs.lemmas.List.Folds.{list_any_at}
use Rattle.std.proofs.lemmas.Map.Keys.{IsDistinct-from_apart}
use Rattle.std.proofs.lemmas.Map.Steps.{length-le_from_distinct_below}
use Rattle.nf_rational_laws.proofs.Tests.{test_of_le}
use Rattle.nf_linear_laws.proofs.Columns.{place}
use Rattle.std.proofs.lemmas.Option.{same_Some}
use Rattle.std.proofs.lemmas.Grind.{get_or_default_zero}

-- ---- the test for 0

pub is_zero-at : (x : ℚ) → x ≡ 0ℚ → is_zero x ≡ true
is_zero-at x e = rw (test_of_le x 0ℚ (≤ℚ_of_same x 0ℚ e), test_of_le 0ℚ x (≤ℚ_of_same 0ℚ x (sym e))) refl

pub some_tested : (x : ℚ) → is_zero x ≡ false → x ≢ 0ℚ
some_tested x e h = let k = is_zero-at x h in absurd (cc)

-- ---- the pivot row of a column
abbrev pub pivot_row_of : List ℕ → ℕ → ℕ
pivot_row_of pivots d = get_or pivots d 0

pub none_is : (pivots : List ℕ) (i : ℕ) → list_any (λ q. q == i) pivots ≡ false → (d : ℕ) → d < length pivots → pivot_row_of pivots d ≢ i
none_is pivots i e d b h = let k = list_any_at (λ q. q == i) pivots d 0 b (eq-eqb (pivot_row_of pivots d) i h) in absurd (cc)

pub none_any : (pivots : List ℕ) (i : ℕ) → ((d : ℕ) → d < length pivots → pivot_row_of pivots d ≢ i) → list_any (λ q. q == i) pivots ≡ false
none_any [] i h = refl
none_any (q ∷ pivots) i h = ⊎_elim
    (λ (s : (eqb q i ≡ true) × (q ≡ i)). absurd (h 0 (omega arith) s.1))
    (λ (s : (eqb q i ≡ false) × (q ≢ i)). rw s.0 (none_any pivots i (λ d b. h (suc d) (omega arith))))
    (eqb_tells q i)

-- ---- the pivot of a column, among the rows from number k on
skipped : (a b : Bool) (k : ℕ) (rest : Option ℕ) → (if not a && not b then Some k else rest) ≡ None → (rest ≡ None) × (a ≡ false → b ≡ true)
skipped true b k rest e = (e, λ h. absurd (cc))
skipped false true k rest e = (e, λ h. refl)
skipped false false k rest e = absurd (cc)

pub no_pivot : (k : ℕ) (rows : List Row) (pivots : List ℕ) (c : ℕ) → pivot_from k rows pivots c ≡ None
    → (i j : ℕ) → i < length rows → j ≡ k + i → list_any (λ q. q == j) pivots ≡ false → is_zero (number_at (row_at rows i) c) ≡ true
no_pivot k [] pivots c e i j b h f = absurd (omega arith)
no_pivot k (row ∷ rows) pivots c e zero j b h f =
    let same : j ≡ k = omega arith in
    (skipped (list_any (λ q. q == k) pivots) (is_zero (number_at row c)) k (pivot_from (suc k) rows pivots c) e).1 (subst (λ (m : ℕ). list_any (λ q. q == m) pivots ≡ false) same f)
no_pivot k (row ∷ rows) pivots c e (suc i) j b h f =
    no_pivot (suc k) rows pivots c (skipped (list_any (λ q. q == k) pivots) (is_zero (number_at row c)) k (pivot_from (suc k) rows pivots c) e).0 i j (omega arith) (omega arith) f

pub record IsPivot (k : ℕ) (rows : List Row) (pivots : List ℕ) (c p : ℕ) : Type 0 where
  pub number : ℕ
  pub place : p ≡ k + number
  pub within : number < length rows
  pub other : list_any (λ q. q == p) pivots ≡ false
  pub some : is_zero (number_at (row_at rows number) c) ≡ false

later : (k : ℕ) (row : Row) (rows : List Row) (pivots : List ℕ) (c p : ℕ) → IsPivot (suc k) rows pivots c p → IsPivot k (row ∷ rows) pivots c p
later k row rows pivots c p h = record {
  number = suc h.number;
  place = let e = h.place in omega arith;
  within = let b = h.within in omega arith;
  other = h.other;
  some = h.some;
}

pivot_at : (a b : Bool) (k : ℕ) (row : Row) (rows : List Row) (pivots : List ℕ) (c p : ℕ) → list_any (λ q. q == k) pivots ≡ a → is_zero (number_at row c) ≡ b
    → (if not a && not b then Some k else pivot_from (suc k) rows pivots c) ≡ Some p
    → (pivot_from (suc k) rows pivots c ≡ Some p → IsPivot (suc k) rows pivots c p) → IsPivot k (row ∷ rows) pivots c p
pivot_at true b k row rows pivots c p f g e next = later k row rows pivots c p (next e)
pivot_at false true k row rows pivots c p f g e next = later k row rows pivots c p (next e)
pivot_at false false k row rows pivots c p f g e next = record {
  number = 0;
  place = let h = same_Some k p e in omega arith;
  within = omega arith;
  other = subst (λ (m : ℕ). list_any (λ q. q == m) pivots ≡ false) (same_Some k p e) f;
  some = g;
}

pub is_pivot : (k : ℕ) (rows : List Row) (pivots : List ℕ) (c p : ℕ) → pivot_from k rows pivots c ≡ Some p → IsPivot k rows pivots c p
is_pivot k [] pivots c p e = absurd (cc)
is_pivot k (row ∷ rows) pivots c p e =
    pivot_at (list_any (λ q. q == k) pivots) (is_zero (number_at row c)) k row rows pivots c p refl refl e (is_pivot (suc k) rows pivots c p)

-- ---- as many different numbers below a bound as the bound are all of them

members_below : (xs : List ℕ) (n : ℕ) → ((d : ℕ) → d < length xs → get_or xs d 0 < n) → (q : ℕ) → list_any (eqb q) xs ≡ true → q < n
members_below [] n h q e = absurd (cc)
members_below (x ∷ xs) n h q e = ⊎_elim
    (λ (s : (eqb q x ≡ true) × (q ≡ x)). subst (λ (k : ℕ). k < n) (sym s.1) (h 0 (omega arith)))
    (λ (s : (eqb q x ≡ false) × (q ≢ x)). members_below xs n (λ d b. h (suc d) (omega arith)) q
    (let k : (false || list_any (eqb q) xs) ≡ true = subst (λ (t : Bool). (t || list_any (eqb q) xs) ≡ true) s.0 e in k))
    (eqb_tells q x)

module _ (xs : List ℕ) (n : ℕ) (count : length xs ≡ n) (below : (d : ℕ) → d < n → get_or xs d 0 < n) (apart : (d e : ℕ) → d < n → e < n → d ≢ e → get_or xs d 0 ≢ get_or xs e 0) where
  one_more_apart : (i : ℕ) → ((d : ℕ) → d < n → get_or xs d 0 ≢ i) → (a b : ℕ) (d : ℕ) → a < b → b < suc (length xs) → eqb (get_or (i ∷ xs) a d) (get_or (i ∷ xs) b d) ≡ false
  one_more_apart i h a zero d l m = absurd (omega arith)
  one_more_apart i h zero (suc b) d l m = ne_eqb i (get_or xs b d) (λ e. h b (omega arith) (sym (get_or_default_zero xs b d (omega arith)) ∙ sym e))
  one_more_apart i h (suc a) (suc b) d l m = ne_eqb (get_or xs a d) (get_or xs b d)
      (λ e. apart a b (omega arith) (omega arith) (omega arith) (sym (get_or_default_zero xs a d (omega arith)) ∙ e ∙ get_or_default_zero xs b d (omega arith)))

  one_more_below : (i : ℕ) → i < n → (d : ℕ) → d < suc (length xs) → get_or (i ∷ xs) d 0 < n
  one_more_below i b zero c = b
  one_more_below i b (suc d) c = below d (omega arith)

  too_many : (i : ℕ) → i < n → ((d : ℕ) → d < n → get_or xs d 0 ≢ i) → ⊥
  too_many i b h =
      let many : suc (length xs) ≤ n = length-le_from_distinct_below (i ∷ xs) n (IsDistinct-from_apart eqb (i ∷ xs) (one_more_apart i h))
      (members_below (i ∷ xs) n (one_more_below i b)) in
      omega arith

  pub every_one : (i : ℕ) → i < n → (d : ℕ) × (d < n) × (get_or xs d 0 ≡ i)
  every_one i b = ⊎_elim
      (λ (s : (d : ℕ) × (d < n) × (get_or xs d 0 ≡ i)). s)
      (λ (s : (d : ℕ) → d < n → get_or xs d 0 ≢ i). absurd (too_many i b s))
      (place (pivot_row_of xs) i n)
