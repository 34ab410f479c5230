-- What elimination leaves where each column has a pivot.
use Rattle.std.specs.Prelude.{◌≡◌, ◌≢◌, ℕ, ◌<◌, ◌==◌, Bool, List, length, get_or}
use Rattle.std.specs.List.{list_any}
use Rattle.nf_rational.specs.Operations.{0ℚ}
use Rattle.nf_model.specs.Entries.{number_at}
use Rattle.nf_linear_def.specs.Table.{Row, Eliminated, row_at}
use Rattle.nf_linear_laws.specs.Solution.{IsSquare}

-- of each row, whether it is one of these pivot rows
abbrev pub AreTaken : List Bool → List ℕ → Type 0
AreTaken taken pivots = (i : ℕ) → i < length taken → (d : Bool) → get_or taken i d ≡ list_any (λ pivot. pivot == i) pivots

-- cleared rows, and the pivot rows of the columns so far
abbrev pub eliminated : List Row → List ℕ → Eliminated
eliminated rows pivots = record { rows = rows; pivots = pivots }

-- a pivot row for each column, with an entry other than 0 there
pub record HasPivots (rows : List Row) (pivots : List ℕ) : Type 0 where
  pub square : IsSquare rows
  pub count : length pivots ≡ length rows
  pub within : (column : ℕ) → column < length rows → get_or pivots column 0 < length rows
  pub some : (column : ℕ) → column < length rows → number_at (row_at rows (get_or pivots column 0)) column ≢ 0ℚ
