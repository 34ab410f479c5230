-- What is found of a system on a grid, with the values that are then in place.
use Rattle.std.specs.Prelude.{List, Option, Some, None}
use Rattle.nf_rational.specs.Rational.{ℚ}
use Rattle.nf_linear_def.specs.Table.{Row}
use Rattle.nf_linear_laws.specs.Solution.{IsOnlySolution}
use Rattle.nf_linear.specs.declared.solution.Eliminated.{Eliminated}
use Rattle.nf_linear.specs.declared.solution.Eliminated.TheVariants.{One, NotOne}

-- the value of each unknown, and none where the system has not exactly one solution
abbrev pub values_if : Eliminated → List ℚ → Option (List ℚ)
values_if One values = Some values
values_if NotOne values = None

-- these values are the only solution, or no values are
abbrev pub IsTrueWith : List Row → Eliminated → List ℚ → Type 0
IsTrueWith rows One values = IsOnlySolution rows values
IsTrueWith rows NotOne values = (xs : List ℚ) → IsOnlySolution rows xs → ⊥
