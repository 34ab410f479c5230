-- Consecutive points of a curve.
use Rattle.std.specs.Prelude.{List, [], ◌∷◌, Option, None}
use Rattle.nf_rational.specs.Rational.{ℚ}
use Rattle.nf_rational.specs.Operations.{0ℚ}
use Rattle.nf_model.specs.Curve.{Point}
use Rattle.nf_curve_def.specs.Lines.{Sides}
use Rattle.nf_check_def.specs.PointRules.{falling_from}

-- the first point whose value exceeds the next value, with both values
abbrev pub first_fall : List Point → Option Sides
first_fall [] = None
first_fall (p ∷ rest) = falling_from p rest

-- the value of the first point
abbrev pub first_value : List Point → ℚ
first_value [] = 0ℚ
first_value (p ∷ rest) = p.1
