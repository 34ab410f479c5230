-- Steps of elimination by the entries of a pivot row other than 0: each is a column and a number.
use Rattle.std.specs.Prelude.{ℕ, suc, Bool, true, false, ◌||◌, ◌==◌, if◌then◌else◌, List, [], ◌∷◌, map, set, Ok}
use Rattle.nf_rational.specs.Rational.{ℚ}
use Rattle.nf_rational.specs.Operations.{0ℚ}
use Rattle.nf_frac_def.specs.Passing.{Passing}
use Rattle.nf_frac_def.specs.Checked.{Checked, checked, fold_checked, ◌>>=◌}
use Rattle.nf_frac_def.specs.declared.Op.TheVariants.{Quotient}
use Rattle.nf_model.specs.Entries.{number_at}
use Rattle.nf_rational.specs.Signs.{is_zero}
use Rattle.nf_linear_def.specs.Table.{Row, less_unless}

-- entries by what their numbers mean
abbrev pub meant : {S : Type 0} → (S → ℚ) → List (ℕ × S) → List (ℕ × ℚ)
meant means entries = map (λ e. (e.0, means e.1)) entries

-- the entries other than 0 of some columns, from column k on
abbrev pub some_from : ℕ → Row → List (ℕ × ℚ)
some_from k [] = []
some_from k (p ∷ row) = if is_zero p then some_from (suc k) row else (k, p) ∷ some_from (suc k) row

module _ (passes : Passing) where
  -- an entry less f times that of the pivot row
  abbrev pub entry_less : ℚ → Row → ℕ × ℚ → Checked Row
  entry_less f row entry = do
    y ← less_unless passes false f entry.1 (number_at row entry.0)
    Ok (set row entry.0 y)

  -- the entry of a column becomes 0, and the later ones lose the pivot row's times the quotient of the two entries
  abbrev pub clear_row : ℕ → ℚ → List (ℕ × ℚ) → Row → Checked Row
  clear_row column own later row = do
    f ← checked passes Quotient (number_at row column) own
    fold_checked (entry_less f) (set row column 0ℚ) later

  -- a row stays as it is where it is the pivot row, or has no entry in the column
  abbrev pub clear_unless : Bool → ℕ → ℚ → List (ℕ × ℚ) → Row → Checked Row
  clear_unless true column own later row = Ok row
  clear_unless false column own later row = clear_row column own later row

  -- the rows from number i on, in order
  abbrev pub clear_each : ℕ → ℕ → ℚ → List (ℕ × ℚ) → ℕ → List Row → Checked (List Row)
  clear_each column pivot own later i [] = Ok []
  clear_each column pivot own later i (row ∷ rows) = do
    r ← clear_unless (i == pivot || is_zero (number_at row column)) column own later row
    rs ← clear_each column pivot own later (suc i) rows
    Ok (r ∷ rs)
