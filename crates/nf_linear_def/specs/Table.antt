-- The table operations: Gauss-Jordan elimination of a linear system. The table has as many rows as unknowns. Each row has a number for each
-- unknown (its columns), and then its right side.
use Rattle.std.specs.Prelude.{ℕ, zero, suc, Bool, true, false, not, ◌&&◌, ◌||◌, ◌==◌, if◌then◌else◌, List, [], ◌∷◌, ◌++◌, length, take, drop, Option, Some, None, slice_get, unwrap_or, Ok}
use Rattle.std.specs.List.{list_any}
use Rattle.nf_rational.specs.Rational.{ℚ}
use Rattle.nf_rational.specs.Operations.{0ℚ}
use Rattle.nf_frac_def.specs.Passing.{Passing}
use Rattle.nf_frac_def.specs.Checked.{Checked, checked, ◌>>=◌}
use Rattle.nf_frac_def.specs.declared.Op.TheVariants.{Difference, Product, Quotient}
use Rattle.nf_model.specs.Entries.{number_at}
use Rattle.nf_rational.specs.Signs.{is_zero}

abbrev pub Row : Type 0
Row = List ℚ

abbrev pub row_at : List Row → ℕ → Row
row_at rows i = unwrap_or (slice_get rows i) []

-- ---- pivots

-- The pivot of a column: the first row, from number i on, that is no pivot so far and has a nonzero entry in the column.
abbrev pub pivot_from : ℕ → List Row → List ℕ → ℕ → Option ℕ
pivot_from i [] pivots column = None
pivot_from i (row ∷ rows) pivots column =
    if not (list_any (λ pivot. pivot == i) pivots) && not (is_zero (number_at row column)) then Some i
    else pivot_from (suc i) rows pivots column

abbrev pub pivot_of : List Row → List ℕ → ℕ → Option ℕ
pivot_of rows pivots column = pivot_from 0 rows pivots column

-- Rows, with the pivot row of each column so far.
pub record Eliminated : Type 0 where
  pub rows : List Row
  pub pivots : List ℕ

module _ (passes : Passing) where
  -- ---- clearing of a column in all rows except its pivot row

  -- An entry less f times the pivot row's entry. If the pivot row's entry is 0, there is no operation.
  abbrev pub less_unless : Bool → ℚ → ℚ → ℚ → Checked ℚ
  less_unless true f p x = Ok x
  less_unless false f p x = do
    m ← checked passes Product f p
    checked passes Difference x m

  -- The same for all entries from a column on, the right side last.
  abbrev pub entries_less : ℚ → Row → Row → Checked Row
  entries_less f (p ∷ pivot_row) (x ∷ row) = do
    y ← less_unless (is_zero p) f p x
    ys ← entries_less f pivot_row row
    Ok (y ∷ ys)
  entries_less f pivot_row row = Ok []

  -- The row with its entry in the column cleared. Each later entry loses the quotient of the two entries times the pivot row's entry.
  abbrev pub cleared_row : ℕ → Row → Row → Checked Row
  cleared_row column pivot_row row = do
    f ← checked passes Quotient (number_at row column) (number_at pivot_row column)
    later ← entries_less f (drop (suc column) pivot_row) (drop (suc column) row)
    Ok (take column row ++ 0ℚ ∷ later)

  -- The pivot row, and a row with entry 0 in the column, stay unchanged.
  abbrev pub clear_unless : Bool → ℕ → Row → Row → Checked Row
  clear_unless true column pivot_row row = Ok row
  clear_unless false column pivot_row row = cleared_row column pivot_row row

  -- The rows from number i on, cleared in order.
  abbrev pub clear_rows : ℕ → ℕ → Row → ℕ → List Row → Checked (List Row)
  clear_rows column pivot pivot_row i [] = Ok []
  clear_rows column pivot pivot_row i (row ∷ rows) = do
    r ← clear_unless (i == pivot || is_zero (number_at row column)) column pivot_row row
    rs ← clear_rows column pivot pivot_row (suc i) rows
    Ok (r ∷ rs)

  -- ---- column by column

  -- A column without a pivot ends the operations.
  abbrev pub eliminate_at : Eliminated → ℕ → Option ℕ → Checked (Option Eliminated)
  eliminate_at done column None = Ok None
  eliminate_at done column (Some pivot) = do
    rows ← clear_rows column pivot (row_at done.rows pivot) 0 done.rows
    Ok (Some (record { rows = rows; pivots = done.pivots ++ pivot ∷ [] }))

  abbrev pub eliminate_column : Eliminated → ℕ → Checked (Option Eliminated)
  eliminate_column done column = eliminate_at done column (pivot_of done.rows done.pivots column)

  abbrev pub if_some : {A B : Type 0} → (A → Checked (Option B)) → Option A → Checked (Option B)
  if_some f None = Ok None
  if_some f (Some x) = f x

  -- Elimination of the given number of columns, from this column on.
  abbrev pub eliminate_from : ℕ → ℕ → Eliminated → Checked (Option Eliminated)
  eliminate_from zero column done = Ok (Some done)
  eliminate_from (suc more) column done = eliminate_column done column >>= if_some (λ next. eliminate_from more (suc column) next)

  -- ---- the solution

  -- For each column from this one on, the right side of its pivot row over the entry there.
  abbrev pub solution_from : List Row → ℕ → List ℕ → Checked (List ℚ)
  solution_from rows column [] = Ok []
  solution_from rows column (pivot ∷ pivots) = do
    x ← checked passes Quotient (number_at (row_at rows pivot) (length rows)) (number_at (row_at rows pivot) column)
    xs ← solution_from rows (suc column) pivots
    Ok (x ∷ xs)

  abbrev pub solution_of : Eliminated → Checked (Option (List ℚ))
  solution_of done = do
    xs ← solution_from done.rows 0 done.pivots
    Ok (Some xs)

  -- The value of each unknown, or none if the system does not have exactly one solution.
  unfoldable pub table_list : List Row → Checked (Option (List ℚ))
  table_list rows = eliminate_from (length rows) 0 (record { rows = rows; pivots = [] }) >>= if_some solution_of
