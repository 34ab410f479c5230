-- If no operation of the elimination of a table passes, its value is also that of the elimination in which fewer operations can pass.
use Rattle.std.proofs.Common.{◌==◌, ◌||◌, ℕ, zero, suc, Bool, true, false, List, [], ◌∷◌, length, Option, Some, None, Ok, drop}
use Rattle.nf_linear_laws.proofs.Common.{ℚ, is_zero, Difference, Product, Quotient, Passing, never, Checked, number_at, Row, Eliminated, row_at, pivot_of}
use Rattle.nf_linear_laws.proofs.Common.{less_unless, entries_less, cleared_row, clear_unless, clear_rows, eliminate_at, if_some, eliminate_from}
use Rattle.nf_linear_laws.proofs.Common.{solution_from, solution_of}
use Rattle.nf_frac_def.proofs.Exact.{GivesAs, PassesFewer, bind, same, one, none_passes}
use Rattle.nf_linear_def.specs.Table.{table_list}

module _ (passes fewer : Passing) (none_more : PassesFewer passes fewer) where
  less_as : (zero : Bool) (f p x : ℚ) → GivesAs (less_unless passes zero f p x) (less_unless fewer zero f p x)
  less_as true f p x = same (Ok x)
  less_as false f p x = bind _ _ _ _ (one passes fewer none_more Product f p) (λ m. one passes fewer none_more Difference x m)

  entries_as : (f : ℚ) (pivot_row row : Row) → GivesAs (entries_less passes f pivot_row row) (entries_less fewer f pivot_row row)
  entries_as f [] row = same (Ok [])
  entries_as f (p ∷ pivot_row) [] = same (Ok [])
  entries_as f (p ∷ pivot_row) (x ∷ row) = bind _ _ _ _ (less_as (is_zero p) f p x) (λ y. bind _ _ _ _ (entries_as f pivot_row row) (λ ys. same (Ok (y ∷ ys))))

  cleared_as : (column : ℕ) (pivot_row row : Row) → GivesAs (cleared_row passes column pivot_row row) (cleared_row fewer column pivot_row row)
  cleared_as column pivot_row row =
      bind _ _ _ _ (one passes fewer none_more Quotient (number_at row column) (number_at pivot_row column))
      (λ f. bind _ _ _ _ (entries_as f (drop (suc column) pivot_row) (drop (suc column) row)) (λ later. same _))

  unless_as : (stays : Bool) (column : ℕ) (pivot_row row : Row) → GivesAs (clear_unless passes stays column pivot_row row) (clear_unless fewer stays column pivot_row row)
  unless_as true column pivot_row row = same (Ok row)
  unless_as false column pivot_row row = cleared_as column pivot_row row

  rows_under : (column pivot : ℕ) (pivot_row : Row) (i : ℕ) (rows : List Row) → GivesAs (clear_rows passes column pivot pivot_row i rows) (clear_rows fewer column pivot pivot_row i rows)
  rows_under column pivot pivot_row i [] = same (Ok [])
  rows_under column pivot pivot_row i (row ∷ rows) =
      bind _ _ _ _ (unless_as (i == pivot || is_zero (number_at row column)) column pivot_row row)
      (λ r. bind _ _ _ _ (rows_under column pivot pivot_row (suc i) rows) (λ rs. same (Ok (r ∷ rs))))

  eliminate_at_as : (done : Eliminated) (column : ℕ) (pivot : Option ℕ) → GivesAs (eliminate_at passes done column pivot) (eliminate_at fewer done column pivot)
  eliminate_at_as done column None = same (Ok None)
  eliminate_at_as done column (Some pivot) = bind _ _ _ _ (rows_under column pivot (row_at done.rows pivot) 0 done.rows) (λ rows. same _)

  if_some_as : {A B : Type 0} (f g : A → Checked (Option B)) → ((x : A) → GivesAs (f x) (g x)) → (o : Option A) → GivesAs (if_some passes f o) (if_some fewer g o)
  if_some_as f g h None = same (Ok None)
  if_some_as f g h (Some x) = h x

  eliminate_as : (more column : ℕ) (done : Eliminated) → GivesAs (eliminate_from passes more column done) (eliminate_from fewer more column done)
  eliminate_as zero column done = same (Ok (Some done))
  eliminate_as (suc more) column done =
      bind _ _ _ _ (eliminate_at_as done column (pivot_of done.rows done.pivots column))
      (if_some_as (λ next. eliminate_from passes more (suc column) next) (λ next. eliminate_from fewer more (suc column) next) (λ next. eliminate_as more (suc column) next))

  solution_as : (rows : List Row) (column : ℕ) (pivots : List ℕ) → GivesAs (solution_from passes rows column pivots) (solution_from fewer rows column pivots)
  solution_as rows column [] = same (Ok [])
  solution_as rows column (pivot ∷ pivots) = bind _ _ _ _ (one passes fewer none_more Quotient (number_at (row_at rows pivot) (length rows)) (number_at (row_at rows pivot) column))
      (λ x. bind _ _ _ _ (solution_as rows (suc column) pivots) (λ xs. same (Ok (x ∷ xs))))

  pub table_list_under : (rows : List Row) → GivesAs (table_list passes rows) (table_list fewer rows)
  unfolding table_list
  table_list_under rows = bind _ _ _ _ (eliminate_as (length rows) 0 (record { rows = rows; pivots = [] }))
      (if_some_as (solution_of passes) (solution_of fewer) (λ done. bind _ _ _ _ (solution_as done.rows 0 done.pivots) (λ xs. same (Ok (Some xs)))))

-- ---- no operation can pass
pub rows_as : (passes : Passing) (column pivot : ℕ) (pivot_row : Row) (i : ℕ) (rows : List Row)
    → GivesAs (clear_rows passes column pivot pivot_row i rows) (clear_rows never column pivot pivot_row i rows)
rows_as passes = rows_under passes never (none_passes passes)

pub table_list_as : (passes : Passing) (rows : List Row) → GivesAs (table_list passes rows) (table_list never rows)
table_list_as passes = table_list_under passes never (none_passes passes)
