-- The table operations, if no operation can pass. Each column with a pivot is cleared. A column without a pivot shows that the system does
-- not have exactly one solution. If all columns are cleared, the pivot rows give the only solution.
use Rattle.std.proofs.Common.{◌≡◌, ◌≢◌, ℕ, zero, suc, ◌+◌, ◌<◌, List, [], ◌∷◌, ◌++◌, length, get_or, Bool, true, false, cond, ◌||◌, eqb, refl, sym, ap}
use Rattle.std.proofs.Common.{subst, ◌∙◌, arith, ◌==◌, Option, Some, None, Ok}
use Rattle.nf_linear_laws.proofs.Common.{eq-eqb, ne_eqb, ℚ, 0ℚ, 1ℚ, ◌-ℚ◌, ◌*ℚ◌, ◌/ℚ◌, Checked, ◌>>=◌, number_at, is_zero, Row, Eliminated, row_at, pivot_of}
use Rattle.nf_linear_laws.proofs.Common.{eliminate_at, if_some, eliminate_from, solution_from, solution_of, never, zero_of_test, IsSquare}
use Rattle.std.proofs.Math.Seq.{get_or-append_seam}
use Rattle.std.proofs.lemmas.List.{get_or_append_left}
use Rattle.std.proofs.Math.ListN.{length-append}
use Rattle.nf_linear_def.specs.Table.{table_list}
use Rattle.nf_linear_laws.proofs.Steps.{Table, Meets, IsStep, meets_after, meets_before}
use Rattle.nf_linear_laws.proofs.Columns.{Reduced, one_more, solution, forced, met, free, free-at, homogeneous}
use Rattle.nf_linear_laws.proofs.Pivots.{some_tested, pivot_row_of, none_is, none_any, no_pivot, IsPivot, is_pivot, every_one}
use Rattle.nf_linear_laws.proofs.Rows.{bind_ok, rows_after, rows_exact, kept_or_less, kept_or_less-at, kept_or_less-clear, kept_or_less-length}
use Rattle.nf_linear_laws.proofs.Rows.{rows_after-length, rows_after-at, quotient_exact}

abbrev pub numbers : List Row → Table
numbers rows i j = number_at (row_at rows i) j

-- ---- what the result of the operations means for a table of n rows
pub record IsSolvedBy (n : ℕ) (M : Table) (xs : List ℚ) : Type 0 where
  pub count : length xs ≡ n
  pub forced : (x : ℕ → ℚ) → Meets n M 1ℚ x → (d : ℕ) → d < n → x d ≡ number_at xs d
  pub met : (x : ℕ → ℚ) → ((d : ℕ) → d < n → x d ≡ number_at xs d) → Meets n M 1ℚ x

-- The homogeneous system has a solution other than 0.
pub record IsLoose (n : ℕ) (M : Table) : Type 0 where
  pub column : ℕ
  pub within : column < n
  pub free : ℕ → ℚ
  pub homogeneous : Meets n M 0ℚ free
  pub one : free column ≡ 1ℚ

abbrev pub Says : ℕ → Table → Option (List ℚ) → Type 0
Says n M (Some xs) = IsSolvedBy n M xs
Says n M None = IsLoose n M

says_before : {n p : ℕ} {g : ℕ → ℚ} {M N : Table} → IsStep n p g M N → (values : Option (List ℚ)) → Says n N values → Says n M values
says_before step (Some xs) s = record { count = s.count; forced = λ x h. s.forced x (meets_after step x 1ℚ h); met = λ x h. meets_before step x 1ℚ (s.met x h) }
says_before step None s = record { column = s.column; within = s.within; free = s.free; homogeneous = meets_before step s.free 0ℚ s.homogeneous; one = s.one }

-- ---- a table with its first c columns cleared
pub record IsCleared (n c : ℕ) (rows : List Row) (pivots : List ℕ) : Type 0 where
  pub count : length rows ≡ n
  pub square : (i : ℕ) → i < n → length (row_at rows i) ≡ suc n
  pub steps : length pivots ≡ c
  pub reduced : Reduced n c (numbers rows) (pivot_row_of pivots)

-- ---- one column is cleared
either_zero : (a b : Bool) (x : ℚ) → a ≡ false → (b ≡ true → x ≡ 0ℚ) → (a || b) ≡ true → x ≡ 0ℚ
either_zero true b x e h k = absurd (cc)
either_zero false b x e h k = h k

module _ {n c : ℕ} {rows : List Row} {pivots : List ℕ} (s : IsCleared n c rows pivots) (inside : c < n) (p : ℕ) (pivot : IsPivot 0 rows pivots c p) where
  same_number : pivot.number ≡ p
  same_number = let e = pivot.place in omega arith

  within : p < n
  within = let b = pivot.within in let e = s.count in let f = same_number in omega arith

  others : (d : ℕ) → d < c → pivot_row_of pivots d ≢ p
  others d b = none_is pivots p pivot.other d (subst (λ (k : ℕ). d < k) (sym s.steps) b)

  some : numbers rows p c ≢ 0ℚ
  some = some_tested (numbers rows p c) (subst (λ (k : ℕ). is_zero (numbers rows k c) ≡ false) same_number pivot.some)

  abbrev new_rows : List Row
  new_rows = rows_after c p (row_at rows p) 0 rows

  abbrev stays : ℕ → Bool
  stays i = i == p || is_zero (numbers rows i c)

  abbrev times : ℕ → ℚ
  times i = cond (stays i) 0ℚ (numbers rows i c /ℚ numbers rows p c)

  module _ (i : ℕ) (b : i < n) where
    after : row_at new_rows i ≡ kept_or_less (stays i) c (row_at rows p) (row_at rows i)
    after = rows_after-at c p (row_at rows p) 0 rows i i (subst (λ (k : ℕ). i < k) (sym s.count) b) (omega arith)

    as_long : length (row_at rows p) ≡ length (row_at rows i)
    as_long = s.square p within ∙ sym (s.square i b)

    inside_row : c < length (row_at rows i)
    inside_row = subst (λ (k : ℕ). c < k) (sym (s.square i b)) (omega arith)

    early : (j : ℕ) → j < c → number_at (row_at rows p) j ≡ 0ℚ
    early j a = s.reduced.cleared j p a within (λ e. others j a (sym e))

    number_after : (j : ℕ) → numbers new_rows i j ≡ numbers rows i j -ℚ times i *ℚ numbers rows p j
    number_after j = ap (λ (r : Row). number_at r j) after ∙ kept_or_less-at c (row_at rows p) (row_at rows i) as_long inside_row early some (stays i) j

    clear_after : i ≢ p → numbers new_rows i c ≡ 0ℚ
    clear_after other = ap (λ (r : Row). number_at r c) after ∙ kept_or_less-clear c (row_at rows p) (row_at rows i) as_long inside_row early some (stays i)
        (either_zero (eqb i p) (is_zero (numbers rows i c)) (numbers rows i c) (ne_eqb i p other) (zero_of_test (numbers rows i c)))

    length_after : length (row_at new_rows i) ≡ suc n
    length_after = ap (length {A = ℚ}) after ∙ kept_or_less-length c (row_at rows p) (row_at rows i) as_long inside_row early some (stays i) ∙ s.square i b

  is_step : IsStep n p times (numbers rows) (numbers new_rows)
  is_step = record {
    within = within;
    at = λ i j b a. number_after i b j;
    kept = rw (eq-eqb p p refl) refl;
  }

  pub next_cleared : IsCleared n (suc c) new_rows (pivots ++ p ∷ [])
  next_cleared = record {
    count = rows_after-length c p (row_at rows p) 0 rows ∙ s.count;
    square = length_after;
    steps = length-append pivots (p ∷ []) ∙ (let e = s.steps in omega arith);
    reduced = one_more s.reduced is_step inside others some clear_after
        (λ d b. get_or_append_left pivots (p ∷ []) 0 d (subst (λ (k : ℕ). d < k) (sym s.steps) b))
        (subst (λ (k : ℕ). get_or (pivots ++ p ∷ []) k 0 ≡ p) s.steps (get_or-append_seam pivots p [] 0));
  }

-- ---- a column without pivot
loose : {n c : ℕ} {rows : List Row} {pivots : List ℕ} → IsCleared n c rows pivots → c < n → pivot_of rows pivots c ≡ None → IsLoose n (numbers rows)
loose {n} {c} {rows} {pivots} s inside e =
    let none : (i : ℕ) → i < n → ((d : ℕ) → d < c → pivot_row_of pivots d ≢ i) → numbers rows i c ≡ 0ℚ = λ i b h.
    zero_of_test (numbers rows i c) (no_pivot 0 rows pivots c e i i (subst (λ (k : ℕ). i < k) (sym s.count) b) (omega arith)
    (none_any pivots i (λ d a. h d (subst (λ (k : ℕ). d < k) s.steps a)))) in
    record { column = c; within = inside; free = free s.reduced inside none; homogeneous = homogeneous s.reduced inside none; one = free-at s.reduced inside none }

-- ---- all columns are cleared
abbrev pub solutions : List Row → ℕ → List ℕ → List ℚ
solutions rows k [] = []
solutions rows k (p ∷ pivots) = (numbers rows p (length rows) /ℚ numbers rows p k) ∷ solutions rows (suc k) pivots

solutions_exact : (rows : List Row) (k : ℕ) (pivots : List ℕ) → solution_from never rows k pivots ≡ Ok (solutions rows k pivots)
solutions_exact rows k [] = refl
solutions_exact rows k (p ∷ pivots) = bind_ok _ _ _ _ (quotient_exact (numbers rows p (length rows)) (numbers rows p k)) (bind_ok _ _ _ _ (solutions_exact rows (suc k) pivots) refl)

solutions-length : (rows : List Row) (k : ℕ) (pivots : List ℕ) → length (solutions rows k pivots) ≡ length pivots
solutions-length rows k [] = refl
solutions-length rows k (p ∷ pivots) = ap suc (solutions-length rows (suc k) pivots)

solutions-at : (rows : List Row) (k : ℕ) (pivots : List ℕ) (d e : ℕ) → d < length pivots → e ≡ k + d
    → number_at (solutions rows k pivots) d ≡ numbers rows (pivot_row_of pivots d) (length rows) /ℚ numbers rows (pivot_row_of pivots d) e
solutions-at rows k [] d e b same = absurd (omega arith)
solutions-at rows k (p ∷ pivots) zero e b same = let h : k ≡ e = omega arith in ap (λ (m : ℕ). numbers rows p (length rows) /ℚ numbers rows p m) h
solutions-at rows k (p ∷ pivots) (suc d) e b same = solutions-at rows (suc k) pivots d e (omega arith) (omega arith)

solved : {n : ℕ} {rows : List Row} {pivots : List ℕ} → IsCleared n n rows pivots → IsSolvedBy n (numbers rows) (solutions rows 0 pivots)
solved {n} {rows} {pivots} s =
    let value : (d : ℕ) → d < n → solution s.reduced d ≡ number_at (solutions rows 0 pivots) d = λ d b.
    sym (solutions-at rows 0 pivots d d (subst (λ (k : ℕ). d < k) (sym s.steps) b) (omega arith)
    ∙ ap (λ (m : ℕ). numbers rows (pivot_row_of pivots d) m /ℚ numbers rows (pivot_row_of pivots d) d) s.count) in
    record {
      count = solutions-length rows 0 pivots ∙ s.steps;
      forced = λ x h d b. forced s.reduced x h d b ∙ value d b;
      met = λ x h. met s.reduced x (every_one pivots n s.steps s.reduced.within s.reduced.apart) (λ d b. h d b ∙ sym (value d b));
    }

-- ---- column by column
abbrev with_solution : Checked (Option Eliminated) → Checked (Option (List ℚ))
with_solution r = r >>= if_some never (solution_of never)

value_is : (r : Checked (Option (List ℚ))) (some values : Option (List ℚ)) → r ≡ Ok some → r ≡ Ok values → some ≡ values
value_is r some values e f = cc

all_columns : {n : ℕ} (done : Eliminated) → IsCleared n n done.rows done.pivots → (values : Option (List ℚ)) → with_solution (Ok (Some done)) ≡ Ok values
    → Says n (numbers done.rows) values
all_columns {n} done s values e =
    subst (λ (v : Option (List ℚ)). Says n (numbers done.rows) v)
    (value_is (with_solution (Ok (Some done))) (Some (solutions done.rows 0 done.pivots)) values (bind_ok _ _ _ _ (solutions_exact done.rows 0 done.pivots) refl) e)
    (solved s)

module _ (n c more : ℕ) (done : Eliminated) (s : IsCleared n c done.rows done.pivots) (inside : c < n) (values : Option (List ℚ))
    (rest : (next : Eliminated) → IsCleared n (suc c) next.rows next.pivots → with_solution (eliminate_from never more (suc c) next) ≡ Ok values
    → Says n (numbers next.rows) values) where
  by_pivot : (o : Option ℕ) → pivot_of done.rows done.pivots c ≡ o
      → with_solution (eliminate_at never done c o >>= if_some never (λ next. eliminate_from never more (suc c) next)) ≡ Ok values → Says n (numbers done.rows) values
  by_pivot None h e = subst (λ (v : Option (List ℚ)). Says n (numbers done.rows) v) (value_is (Ok None) None values refl e) (loose s inside h)
  by_pivot (Some p) h e =
      let pivot = is_pivot 0 done.rows done.pivots c p h in
      let next : Eliminated = record { rows = rows_after c p (row_at done.rows p) 0 done.rows; pivots = done.pivots ++ p ∷ [] } in
      says_before (is_step s inside p pivot) values (rest next (next_cleared s inside p pivot)
      (sym (ap (λ (r : Checked (List Row)). with_solution ((r >>= λ rows. Ok (Some (record { rows = rows; pivots = done.pivots ++ p ∷ [] }))) >>= if_some
      never (λ next. eliminate_from never more (suc c) next)))
      (rows_exact c p (row_at done.rows p) 0 done.rows)) ∙ e))

eliminated : (more n c : ℕ) → c + more ≡ n → (done : Eliminated) → IsCleared n c done.rows done.pivots → (values : Option (List ℚ))
    → with_solution (eliminate_from never more c done) ≡ Ok values → Says n (numbers done.rows) values
eliminated zero n c same done s values e =
    let all : c ≡ n = omega arith in all_columns done (subst (λ (k : ℕ). IsCleared n k done.rows done.pivots) all s) values e
eliminated (suc more) n c same done s values e =
    by_pivot n c more done s (omega arith) values (λ next t f. eliminated more n (suc c) (omega arith) next t values f) (pivot_of done.rows done.pivots c) refl e

-- No column is cleared yet.
pub first_cleared : (rows : List Row) → IsSquare rows → IsCleared (length rows) 0 rows []
first_cleared rows square = record {
  count = refl;
  square = square;
  steps = refl;
  reduced = record {
    within = λ d b. absurd (omega arith);
    apart = λ d f b. absurd (omega arith);
    pivot = λ d b. absurd (omega arith);
    cleared = λ d i b. absurd (omega arith);
  };
}

pub table_says : (rows : List Row) → ((i : ℕ) → i < length rows → length (row_at rows i) ≡ suc (length rows)) → (values : Option (List ℚ))
    → table_list never rows ≡ Ok values → Says (length rows) (numbers rows) values
unfolding table_list
table_says rows square values e =
    eliminated (length rows) (length rows) 0 (omega arith) (record { rows = rows; pivots = [] })
    (first_cleared rows square) values e
