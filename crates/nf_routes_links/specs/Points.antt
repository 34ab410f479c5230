-- Points of curves, and exits that are known.
use Rattle.std.specs.Prelude.{◌≡◌, ℕ, List, Some, slice_get, Ok}
use Rattle.nf_rational.specs.Rational.{ℚ}
use Rattle.nf_frac_def.specs.Passing.{passes_Q}
use Rattle.nf_model.specs.Curve.{Point}
use Rattle.nf_curve_def.specs.Lines.{Sides}
use Rattle.nf_curve_def.specs.Values.{checked_value}

-- one of the points is at the time and has the value
pub record IsPoint (points : List Point) (time value : ℚ) : Type 0 where
  pub place : ℕ
  pub is : slice_get points place ≡ Some (time, value)

-- the points have the values that the exits compute at their times
pub record AreKnown (exit known : List Point) : Type 0 where
  pub each : (place : ℕ) (p : Point) → slice_get known place ≡ Some p → checked_value passes_Q exit p.0 ≡ Ok p.1

-- the second value at a time, as a point
abbrev pub right_point : Sides → Point
right_point s = (s.time, s.right)

-- both values at a time are those of points
pub record AreThere (left known : List Point) (time : ℚ) (sides : Sides) : Type 0 where
  pub time_is : sides.time ≡ time
  pub left_is : IsPoint left time sides.left
  pub right_is : IsPoint known time sides.right
