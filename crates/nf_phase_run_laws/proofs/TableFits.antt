-- Elimination of a table of fractions.
use Rattle.std.proofs.Common.{ℕ, zero, suc, List, [], ◌∷◌, ◌++◌, Bool, true, false, length, ◌==◌, ◌||◌, take, drop, Option, Some, None}
use Rattle.nf_phase_run_laws.proofs.Common.{AllByRecursion, ℚ, 0ℚ, Difference, Product, Quotient, passes_Q, Checked, checked, number_at, IsFraction}
use Rattle.nf_phase_run_laws.proofs.Common.{is_zero, every_append, Row, Eliminated, row_at, pivot_of, less_unless, entries_less, cleared_row, clear_unless}
use Rattle.nf_phase_run_laws.proofs.Common.{clear_rows, eliminate_at, if_some, eliminate_from, solution_from, solution_of}
use Rattle.nf_linear_def.specs.Table.{table_list}
use Rattle.nf_phase_run_laws.proofs.Lists.{all_take, all_drop, entry_or}
use Rattle.nf_phase_run_laws.proofs.Fractions.{AreFractions, zero_fraction, number_fraction}
use Rattle.nf_phase_run_laws.proofs.Fits.{Fits, AreOperands, ok_fits, then_fits, one}

abbrev pub AreFractionRows : List Row → Type 0
AreFractionRows rows = AllByRecursion AreFractions rows

-- of a value, where there is one
abbrev pub OrNone : {A : Type 0} → (A → Type 0) → Option A → Type 0
OrNone P None = Unit {0}
OrNone P (Some x) = P x

pub if_some_fits : {A B : Type 0} (P : A → Type 0) (R : B → Type 0) (f : A → Checked (Option B)) → ((x : A) → P x → Fits AreOperands (OrNone R) (f x)) → (o : Option A) → OrNone P o
    → Fits AreOperands (OrNone R) (if_some passes_Q f o)
if_some_fits P R f h None k = ok_fits AreOperands (OrNone R) None tt
if_some_fits P R f h (Some x) k = h x k

pub row_fractions : (rows : List Row) (i : ℕ) → AreFractionRows rows → AreFractions (row_at rows i)
row_fractions rows i all = entry_or AreFractions [] rows i all tt

-- ---- a row loses another
less_fits : (zero : Bool) (f p x : ℚ) → IsFraction f → IsFraction p → IsFraction x → Fits AreOperands IsFraction (less_unless passes_Q zero f p x)
less_fits true f p x h k l = ok_fits AreOperands IsFraction x l
less_fits false f p x h k l = then_fits (checked passes_Q Product f p) _ (one Product f p h k) (λ m n. one Difference x m l n)

entries_fit : (f : ℚ) (pivot_row row : Row) → IsFraction f → AreFractions pivot_row → AreFractions row → Fits AreOperands AreFractions (entries_less passes_Q f pivot_row row)
entries_fit f [] row h k l = ok_fits AreOperands AreFractions [] tt
entries_fit f (p ∷ pivot_row) [] h k l = ok_fits AreOperands AreFractions [] tt
entries_fit f (p ∷ pivot_row) (x ∷ row) h k l = then_fits (less_unless passes_Q (is_zero p) f p x) _ (less_fits (is_zero p) f p x h k.0 l.0)
    (λ y first. then_fits (entries_less passes_Q f pivot_row row) _ (entries_fit f pivot_row row h k.1 l.1) (λ ys others. ok_fits AreOperands AreFractions (y ∷ ys) (first, others)))

cleared_fits : (column : ℕ) (pivot_row row : Row) → AreFractions pivot_row → AreFractions row → Fits AreOperands AreFractions (cleared_row passes_Q column pivot_row row)
cleared_fits column pivot_row row h k = then_fits (checked passes_Q Quotient (number_at row column) (number_at pivot_row column)) _
    (one Quotient (number_at row column) (number_at pivot_row column) (number_fraction row column k) (number_fraction pivot_row column h))
    (λ f l. then_fits (entries_less passes_Q f (drop (suc column) pivot_row) (drop (suc column) row)) _
    (entries_fit f (drop (suc column) pivot_row) (drop (suc column) row) l (all_drop IsFraction (suc column) pivot_row h) (all_drop IsFraction (suc column) row k))
    (λ later m. ok_fits AreOperands AreFractions (take column row ++ 0ℚ ∷ later)
    (every_append IsFraction (take column row) (0ℚ ∷ later) (all_take IsFraction column row k) (zero_fraction, m))))

unless_fits : (stays : Bool) (column : ℕ) (pivot_row row : Row) → AreFractions pivot_row → AreFractions row
    → Fits AreOperands AreFractions (clear_unless passes_Q stays column pivot_row row)
unless_fits true column pivot_row row h k = ok_fits AreOperands AreFractions row k
unless_fits false column pivot_row row h k = cleared_fits column pivot_row row h k

rows_fit : (column pivot : ℕ) (pivot_row : Row) (i : ℕ) (rows : List Row) → AreFractions pivot_row → AreFractionRows rows
    → Fits AreOperands AreFractionRows (clear_rows passes_Q column pivot pivot_row i rows)
rows_fit column pivot pivot_row i [] h k = ok_fits AreOperands AreFractionRows [] tt
rows_fit column pivot pivot_row i (row ∷ rows) h k =
    let stays : Bool = i == pivot || is_zero (number_at row column) in
    then_fits (clear_unless passes_Q stays column pivot_row row) _ (unless_fits stays column pivot_row row h k.0)
    (λ r first. then_fits (clear_rows passes_Q column pivot pivot_row (suc i) rows) _ (rows_fit column pivot pivot_row (suc i) rows h k.1)
    (λ rs others. ok_fits AreOperands AreFractionRows (r ∷ rs) (first, others)))

-- ---- column by column
abbrev HasRows : Eliminated → Type 0
HasRows done = AreFractionRows done.rows

column_fits : (done : Eliminated) (column : ℕ) (pivot : Option ℕ) → HasRows done → Fits AreOperands (OrNone HasRows) (eliminate_at passes_Q done column pivot)
column_fits done column None h = ok_fits AreOperands (OrNone HasRows) None tt
column_fits done column (Some pivot) h = then_fits (clear_rows passes_Q column pivot (row_at done.rows pivot) 0 done.rows) _
    (rows_fit column pivot (row_at done.rows pivot) 0 done.rows (row_fractions done.rows pivot h) h)
    (λ rows k. ok_fits AreOperands (OrNone HasRows) (Some (record { rows = rows; pivots = done.pivots ++ pivot ∷ [] })) k)

columns_fit : (more column : ℕ) (done : Eliminated) → HasRows done → Fits AreOperands (OrNone HasRows) (eliminate_from passes_Q more column done)
columns_fit zero column done h = ok_fits AreOperands (OrNone HasRows) (Some done) h
columns_fit (suc more) column done h =
    then_fits (eliminate_at passes_Q done column (pivot_of done.rows done.pivots column)) _
    (column_fits done column (pivot_of done.rows done.pivots column) h)
    (λ next k. if_some_fits HasRows HasRows (λ next. eliminate_from passes_Q more (suc column) next) (λ next l. columns_fit more (suc column) next l) next k)

-- ---- the solution
solution_fits : (rows : List Row) (column : ℕ) (pivots : List ℕ) → AreFractionRows rows → Fits AreOperands AreFractions (solution_from passes_Q rows column pivots)
solution_fits rows column [] h = ok_fits AreOperands AreFractions [] tt
solution_fits rows column (pivot ∷ pivots) h =
    let pivot_row : AreFractions (row_at rows pivot) = row_fractions rows pivot h in
    then_fits (checked passes_Q Quotient (number_at (row_at rows pivot) (length rows)) (number_at (row_at rows pivot) column)) _
    (one Quotient (number_at (row_at rows pivot) (length rows)) (number_at (row_at rows pivot) column)
    (number_fraction (row_at rows pivot) (length rows) pivot_row) (number_fraction (row_at rows pivot) column pivot_row))
    (λ x first. then_fits (solution_from passes_Q rows (suc column) pivots) _ (solution_fits rows (suc column) pivots h)
    (λ xs others. ok_fits AreOperands AreFractions (x ∷ xs) (first, others)))

pub table_fits : (rows : List Row) → AreFractionRows rows → Fits AreOperands (OrNone AreFractions) (table_list passes_Q rows)
unfolding table_list
table_fits rows h = then_fits (eliminate_from passes_Q (length rows) 0 (record { rows = rows; pivots = [] })) _ (columns_fit (length rows) 0 (record { rows = rows; pivots = [] }) h)
    (λ done k. if_some_fits HasRows AreFractions (solution_of passes_Q)
    (λ done l. then_fits (solution_from passes_Q done.rows 0 done.pivots) _ (solution_fits done.rows 0 done.pivots l)
    (λ xs m. ok_fits AreOperands (OrNone AreFractions) (Some xs) m)) done k)
