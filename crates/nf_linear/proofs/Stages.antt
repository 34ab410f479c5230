-- Columns cleared one by one: what is there so far, and the elimination from there on.
use Rattle.std.proofs.Common.{◌≡◌, ◌≢◌, ℕ, suc, ◌+◌, ◌-◌, ◌<◌, ◌≤◌, List, [], ◌∷◌, ◌++◌, length, get_or, refl, sym, ap, subst, ◌∙◌, add-one, arith, Option}
use Rattle.std.proofs.Common.{Some, None, Ok, Err}
use Rattle.nf_linear.proofs.Common.{ℚ, 0ℚ, Passing, Halt, Checked, Stops, at_part, ◌>>=◌, number_at, Row, row_at, pivot_of, clear_rows, eliminate_at}
use Rattle.nf_linear.proofs.Common.{eliminate_column, eliminate_from, if_some, never, part_ok, rows_as, IsSquare, IsPivot, is_pivot, some_tested}
use Rattle.nf_linear.proofs.Common.{eliminated, HasPivots, same_Ok}
use Rattle.nf_frac_def.specs.declared.Part.TheVariants as Part
use Rattle.nf_linear_def.specs.Table.{Eliminated}
use Rattle.nf_linear_laws.proofs.Rows.{rows_after, rows_exact}
use Rattle.nf_linear_laws.proofs.Elimination.{IsCleared, next_cleared, first_cleared}
use Rattle.nf_linear.proofs.Fronts.{stops}
use Rattle.std.proofs.lemmas.Option.{same_Some}

-- ---- the pivot of a column
module _ (rows : List Row) (pivots : List ℕ) (column pivot : ℕ) (e : pivot_of rows pivots column ≡ Some pivot) where
  found : IsPivot 0 rows pivots column pivot
  found = is_pivot 0 rows pivots column pivot e

  place : found.number ≡ pivot
  place = let h = found.place in omega arith

  pub pivot_within : pivot < length rows
  pivot_within = subst (λ (i : ℕ). i < length rows) place found.within

  pub pivot_some : number_at (row_at rows pivot) column ≢ 0ℚ
  pivot_some = subst (λ (i : ℕ). number_at (row_at rows i) column ≢ 0ℚ) place (some_tested (number_at (row_at rows found.number) column) found.some)

  pub column_cleared : (passes : Passing) (new_rows : List Row) (new_pivots : List ℕ)
      → at_part Part.Table (clear_rows passes column pivot (row_at rows pivot) 0 rows) ≡ Ok new_rows → new_pivots ≡ pivots ++ pivot ∷ []
      → at_part Part.Table (eliminate_column passes (eliminated rows pivots) column) ≡ Ok (Some (eliminated new_rows new_pivots))
  column_cleared passes new_rows new_pivots cleared pushed =
      ap (λ (o : Option ℕ). at_part Part.Table (eliminate_at passes (eliminated rows pivots) column o)) e
      ∙ ap (λ (r : Checked (List Row)). at_part Part.Table (r >>= λ rows. Ok (Some (eliminated rows (pivots ++ pivot ∷ [])))))
      (part_ok Part.Table (clear_rows passes column pivot (row_at rows pivot) 0 rows) new_rows (sym cleared))
      ∙ ap (λ (p : List ℕ). Ok (Some (eliminated new_rows p))) (sym pushed)

  -- the column stops where its rows do
  module _ (passes : Passing) where
    in_rows : eliminate_column passes (eliminated rows pivots) column ≡ (clear_rows passes column pivot (row_at rows pivot) 0 rows >>= λ rows. Ok
        (Some (eliminated rows (pivots ++ pivot ∷ []))))
    in_rows = ap (eliminate_at passes (eliminated rows pivots) column) e

    pub column_stops : {S : Type 0} (means : S → ℚ) (h : Halt S) → Stops means h (at_part Part.Table (clear_rows passes column pivot (row_at rows pivot) 0 rows))
        → Stops means h (at_part Part.Table (eliminate_column passes (eliminated rows pivots) column))
    column_stops means h s =
        subst (λ (r : Checked (Option Eliminated)). Stops means h (at_part Part.Table r)) (sym in_rows)
        (stops Part.Table means h (clear_rows passes column pivot (row_at rows pivot) 0 rows) (λ rows. Ok (Some (eliminated rows (pivots ++ pivot ∷ [])))) s)

-- ---- the next column

after_rows : (r s : Checked (List Row)) (f : List Row → Eliminated) (next : Eliminated) (exact : List Row) → ((rows : List Row) → r ≡ Ok rows → s ≡ Ok rows) → s ≡ Ok exact
    → (r >>= λ rows. Ok (Some (f rows))) ≡ Ok (Some next) → f exact ≡ next
after_rows (Ok rows) s f next exact h k e = ap f (same_Ok exact rows (sym k ∙ h rows refl)) ∙ same_Some (f rows) next (same_Ok (Some (f rows)) (Some next) e)
after_rows (Err p) s f next exact h k e = absurd (cc)

module _ (passes : Passing) (n column : ℕ) (done : Eliminated) (s : IsCleared n column done.rows done.pivots) (inside : column < n) (next : Eliminated) where
  by_pivot : (o : Option ℕ) → pivot_of done.rows done.pivots column ≡ o → eliminate_at passes done column o ≡ Ok (Some next) → IsCleared n (suc column) next.rows next.pivots
  by_pivot None h e = absurd (cc)
  by_pivot (Some pivot) h e =
      subst (λ (d : Eliminated). IsCleared n (suc column) d.rows d.pivots)
      (after_rows (clear_rows passes column pivot (row_at done.rows pivot) 0 done.rows) (clear_rows never column pivot (row_at done.rows pivot) 0 done.rows)
      (λ rows. eliminated rows (done.pivots ++ pivot ∷ [])) next (rows_after column pivot (row_at done.rows pivot) 0 done.rows)
      (rows_as passes column pivot (row_at done.rows pivot) 0 done.rows) (rows_exact column pivot (row_at done.rows pivot) 0 done.rows) e)
      (next_cleared s inside pivot (is_pivot 0 done.rows done.pivots column pivot h))

  pub cleared_next : eliminate_column passes done column ≡ Ok (Some next) → IsCleared n (suc column) next.rows next.pivots
  cleared_next e = by_pivot (pivot_of done.rows done.pivots column) refl e

-- ---- so far
pub record Stage (passes : Passing) (before rows : List Row) (pivots : List ℕ) (column : ℕ) : Type 0 where
  pub cleared : IsCleared (length before) column rows pivots
  pub same : eliminate_from passes (length before - column) column (eliminated rows pivots) ≡ eliminate_from passes (length before) 0 (eliminated before [])

pub first_stage : (passes : Passing) (before : List Row) → IsSquare before → Stage passes before before [] 0
first_stage passes before square = record {
  cleared = first_cleared before square;
  same = ap (λ (more : ℕ). eliminate_from passes more 0 (eliminated before [])) (let e : length before - 0 ≡ length before = omega arith in e);
}

module _ (passes : Passing) (before rows : List Row) (pivots : List ℕ) (column : ℕ) (s : Stage passes before rows pivots column) where
  abbrev now : Eliminated
  now = eliminated rows pivots

  abbrev all : Checked (Option Eliminated)
  all = eliminate_from passes (length before) 0 (eliminated before [])

  abbrev rest : Eliminated → Checked (Option Eliminated)
  rest next = eliminate_from passes (length before - suc column) (suc column) next

  pub stage_square : IsSquare rows
  stage_square i b =
      let e = s.cleared.count in
      s.cleared.square i (subst (λ (k : ℕ). i < k) e b) ∙ ap suc (sym e)

  module _ (inside : column < length before) where
    opened : all ≡ (eliminate_column passes now column >>= if_some passes rest)
    opened = sym s.same ∙ ap (λ (more : ℕ). eliminate_from passes more column now) (let e : length before - column ≡ suc (length before - suc column) = omega arith in e)

    pub stage_none : at_part Part.Table (eliminate_column passes now column) ≡ Ok None → at_part Part.Table all ≡ Ok None
    stage_none e = ap (at_part Part.Table) (opened ∙ ap (λ (r : Checked (Option Eliminated)). r >>= if_some passes rest)
        (part_ok Part.Table (eliminate_column passes now column) None (sym e)))

    pub stage_stops : {S : Type 0} (means : S → ℚ) (h : Halt S) → Stops means h (at_part Part.Table (eliminate_column passes now column)) → Stops means h (at_part Part.Table all)
    stage_stops means h e = subst (λ (r : Checked (Option Eliminated)). Stops means h (at_part Part.Table r)) (sym opened)
        (stops Part.Table means h (eliminate_column passes now column) (if_some passes rest) e)

    pub stage_more : (new_rows : List Row) (new_pivots : List ℕ) → at_part Part.Table (eliminate_column passes now column) ≡ Ok
        (Some (eliminated new_rows new_pivots)) → Stage passes before new_rows new_pivots (column + 1)
    stage_more new_rows new_pivots e =
        let step = part_ok Part.Table (eliminate_column passes now column) (Some (eliminated new_rows new_pivots)) (sym e) in
        let n : column + 1 ≡ suc column = add-one column in
        subst (Stage passes before new_rows new_pivots) (sym n) (record {
          cleared = cleared_next passes (length before) column now s.cleared inside (eliminated new_rows new_pivots) step;
          same = sym (opened ∙ ap (λ (r : Checked (Option Eliminated)). r >>= if_some passes rest) step);
        })

  module _ (end : length rows ≤ column) where
    ended : length before - column ≡ 0
    ended = let e = s.cleared.count in omega arith

    pub stage_all : at_part Part.Table all ≡ Ok (Some (eliminated rows pivots))
    stage_all = ap (at_part Part.Table) (sym s.same ∙ ap (λ (more : ℕ). eliminate_from passes more column now) ended)

    pub stage_pivots : column ≤ length before → HasPivots rows pivots
    stage_pivots most =
        let count = s.cleared.count in
        let steps = s.cleared.steps in
        record {
          square = stage_square;
          count = omega arith;
          within = λ d b. subst (λ (n : ℕ). get_or pivots d 0 < n) (sym count) (s.cleared.reduced.within d (omega arith));
          some = λ d b. s.cleared.reduced.pivot d (omega arith);
        }
