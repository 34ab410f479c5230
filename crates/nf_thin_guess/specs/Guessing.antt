-- The result of a guess.
use Rattle.nf_rational.specs.Rational.{ℚ}
use Rattle.nf_frac_def.specs.Passing.{Passing}
use Rattle.nf_model.specs.Network.{Network}
use Rattle.nf_model.specs.ThinFlow.{Sets}
use Rattle.nf_thin_equation_laws.specs.Equations.{IsPatternIn}
use Rattle.nf_thin_guess.specs.declared.guessing.SolvedPattern.{SolvedPattern}
use Rattle.nf_thin_one.specs.Trying.{AreValuesOf}

-- A pattern, with the values that solve its table.
pub record IsSolved (passes : Passing) (net : Network) (sets : Sets) (rate : ℚ) (solved : SolvedPattern) : Type 0 where
  pub pattern_in : IsPatternIn net sets solved.pattern
  pub values_are : AreValuesOf passes net sets rate solved.pattern solved.values.items
