-- Slopes kept on the way along a curve.
use Rattle.std.specs.Prelude.{◌≡◌, ◌-◌, List, Option, Some, None, slice_get, Ok}
use Rattle.nf_rational.specs.Rational.{ℚ}
use Rattle.nf_frac_def.specs.Passing.{Passing, passes_Q}
use Rattle.nf_frac_def.specs.Checked.{Checked, checked, ◌>>=◌}
use Rattle.nf_frac_def.specs.declared.Op.TheVariants.{Sum, Difference, Product}
use Rattle.nf_model.specs.Curve.{Point}
use Rattle.nf_curve_def.specs.Lines.{checked_slope}
use Rattle.nf_curve.specs.declared.values.PieceSlope.{PieceSlope}
use Rattle.nf_curve.specs.declared.walk.KeptSlopes.{KeptSlopes}

-- computes the value at a time, on the line of this slope through p
unfoldable pub checked_along : Passing → Point → ℚ → ℚ → Checked ℚ
checked_along passes p slope time = do
  d ← checked passes Difference time p.0
  m ← checked passes Product slope d
  checked passes Sum p.1 m

-- a kept slope is the value of the checked slope of its piece
abbrev pub KeepsSlope : List Point → Option PieceSlope → Type 0
KeepsSlope points None = Unit {0}
KeepsSlope points (Some kept) = (p q : Point) → slice_get points (kept.place - 1) ≡ Some p → slice_get points kept.place ≡ Some q → checked_slope passes_Q p q ≡ Ok kept.slope

pub record KeepBoth (left right : List Point) (kept : KeptSlopes) : Type 0 where
  pub left_slope : KeepsSlope left kept.left
  pub right_slope : KeepsSlope right kept.right
