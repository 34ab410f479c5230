-- What is found of a system.
use Rattle.std.specs.Prelude.{List, map, Option, Some, None}
use Rattle.nf_rational.specs.Rational.{ℚ}
use Rattle.nf_linear_def.specs.Table.{Row}
use Rattle.nf_linear_laws.specs.Solution.{IsOnlySolution}
use Rattle.nf_linear.specs.declared.solution.Solved.{Solved}
use Rattle.nf_linear.specs.declared.solution.Solved.TheVariants.{One, NotOne}

module _ {S : Type 0} (means : S → ℚ) where
  -- the value of each unknown, and none where the system has not exactly one solution
  abbrev pub values_of : Solved S → Option (List ℚ)
  values_of (One values) = Some (map means values.items)
  values_of NotOne = None

  -- these values are the only solution, or no values are
  abbrev pub IsTrueOf : List Row → Solved S → Type 0
  IsTrueOf rows (One values) = IsOnlySolution rows (map means values.items)
  IsTrueOf rows NotOne = (values : List ℚ) → IsOnlySolution rows values → ⊥
