-- Linear systems with as many equations as unknowns, and their solution by elimination. A system is given by its table: a row has a number
-- for each unknown, and then its right side.
use Rattle.std.specs.Prelude.{◌≡◌, ℕ, suc, ◌<◌, List, [], ◌∷◌, length, Some, None, Ok}
use Rattle.nf_rational.specs.Rational.{ℚ}
use Rattle.nf_rational.specs.Operations.{0ℚ, ◌+ℚ◌, ◌*ℚ◌}
use Rattle.nf_frac_def.specs.Passing.{Passing}
use Rattle.nf_model.specs.Entries.{number_at}
use Rattle.nf_linear_def.specs.Table.{Row, row_at, table_list}

-- Each row has a number for each unknown, and its right side.
abbrev pub IsSquare : List Row → Type 0
IsSquare rows = (i : ℕ) → i < length rows → length (row_at rows i) ≡ suc (length rows)

-- The sum of the numbers of a row, each times its unknown.
abbrev pub left_side : Row → List ℚ → ℚ
left_side [] xs = 0ℚ
left_side (a ∷ row) [] = 0ℚ
left_side (a ∷ row) (x ∷ xs) = a *ℚ x +ℚ left_side row xs

-- There is a value for each unknown, and with these values each row has its right side.
pub record SolvesRows (rows : List Row) (xs : List ℚ) : Type 0 where
  pub count : length xs ≡ length rows
  pub each : (i : ℕ) → i < length rows → left_side (row_at rows i) xs ≡ number_at (row_at rows i) (length rows)

pub record IsOnlySolution (rows : List Row) (xs : List ℚ) : Type 0 where
  pub solves : SolvesRows rows xs
  pub only : (ys : List ℚ) → SolvesRows rows ys → ys ≡ xs

-- If no operation passes, the values are the only solution, and there are none if there is no solution or more than one.
pub record TableIsSolved : Type 0 where
  pub one : (passes : Passing) (rows : List Row) (xs : List ℚ) → IsSquare rows → table_list passes rows ≡ Ok (Some xs)
      → IsOnlySolution rows xs
  pub not_one : (passes : Passing) (rows : List Row) → IsSquare rows → table_list passes rows ≡ Ok None → (xs : List ℚ)
      → IsOnlySolution rows xs → ⊥
