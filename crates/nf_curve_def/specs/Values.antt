-- Values and cuts of a curve.
use Rattle.std.specs.Prelude.{if◌then◌else◌, List, [], ◌∷◌, ◌++◌, Ok}
use Rattle.nf_rational.specs.Rational.{ℚ}
use Rattle.nf_rational.specs.Operations.{0ℚ}
use Rattle.nf_rational.specs.Order.{lt_ℚ}
use Rattle.nf_frac_def.specs.Passing.{Passing}
use Rattle.nf_frac_def.specs.Checked.{Checked, ◌>>=◌}
use Rattle.nf_model.specs.Curve.{Point}
use Rattle.nf_rational.specs.Signs.{is_same}
use Rattle.nf_curve_def.specs.Lines.{checked_line}

-- the leading points before a time
abbrev pub points_before : ℚ → List Point → List Point
points_before time [] = []
points_before time (p ∷ rest) = if lt_ℚ p.0 time then p ∷ points_before time rest else []

module _ (passes : Passing) where
  -- computes the value at a time from p on; performs no operation at the time of a point or after the last one
  abbrev pub value_from : Point → List Point → ℚ → Checked ℚ
  value_from p [] time = Ok p.1
  value_from p (q ∷ rest) time = if is_same time p.0 then Ok p.1
      else (if lt_ℚ time q.0 then checked_line passes p q time else value_from q rest time)

  unfoldable pub checked_value : List Point → ℚ → Checked ℚ
  checked_value [] time = Ok 0ℚ
  checked_value (p ∷ rest) time = value_from p rest time

  -- lists the points before a time, followed by a point at that time
  unfoldable pub checked_cut : List Point → ℚ → Checked (List Point)
  checked_cut points time = do
    y ← checked_value points time
    Ok (points_before time points ++ (time, y) ∷ [])
