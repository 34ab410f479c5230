-- The pointwise minimum of two curves.
use Rattle.std.specs.Prelude.{Bool, true, false, ◌&&◌, ◌||◌, List, [], ◌∷◌, ◌++◌, Ok}
use Rattle.nf_rational.specs.Rational.{ℚ}
use Rattle.nf_rational.specs.Order.{lt_ℚ, min_ℚ}
use Rattle.nf_frac_def.specs.Passing.{Passing}
use Rattle.nf_frac_def.specs.Checked.{Checked, ◌>>=◌}
use Rattle.nf_model.specs.Curve.{Point}
use Rattle.nf_curve_def.specs.Lines.{Sides, checked_line, checked_cross}
use Rattle.nf_curve_def.specs.Times.{both_times}
use Rattle.nf_curve_def.specs.Sums.{sides_at}

-- tests whether the curve that is below the other at a is above it at b
abbrev pub is_crossed : Sides → Sides → Bool
is_crossed a b = (lt_ℚ a.left a.right && lt_ℚ b.right b.left) || (lt_ℚ a.right a.left && lt_ℚ b.left b.right)

abbrev pub least_point : Sides → Point
least_point sides = (sides.time, min_ℚ sides.left sides.right)

module _ (passes : Passing) where
  -- lists the crossing point, if there is one
  abbrev pub crossing : Bool → Sides → Sides → Checked (List Point)
  crossing false a b = Ok []
  crossing true a b = do
    time ← checked_cross passes a b
    y ← checked_line passes (a.time, a.left) (b.time, b.left) time
    Ok ((time, y) ∷ [])

  -- lists the points of the minimum at these times and at crossings; `before` holds the values at the previous time
  abbrev pub least_after : List Point → List Point → Sides → List ℚ → Checked (List Point)
  least_after left right before [] = Ok []
  least_after left right before (time ∷ times) = do
    now ← sides_at passes left right time
    between ← crossing (is_crossed before now) before now
    rest ← least_after left right now times
    Ok (between ++ least_point now ∷ rest)

  abbrev pub least_from : List Point → List Point → List ℚ → Checked (List Point)
  least_from left right [] = Ok []
  least_from left right (time ∷ times) = do
    first ← sides_at passes left right time
    rest ← least_after left right first times
    Ok (least_point first ∷ rest)

  -- computes a point at each time of the two curves, and at each crossing between
  unfoldable pub checked_least : List Point → List Point → Checked (List Point)
  checked_least left right = least_from left right (both_times left right)
