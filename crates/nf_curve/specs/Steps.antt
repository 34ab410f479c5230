-- Single steps of the loops over curves.
use Rattle.std.specs.Prelude.{Bool, false, List, [], ◌∷◌, ◌++◌, Option, Some, None, if◌then◌else◌, Ok}
use Rattle.nf_rational.specs.Rational.{ℚ}
use Rattle.nf_frac_def.specs.Passing.{Passing}
use Rattle.nf_frac_def.specs.Checked.{Checked, ◌>>=◌}
use Rattle.nf_model.specs.Curve.{Point}
use Rattle.nf_curve_def.specs.Lines.{Sides}
use Rattle.nf_curve_def.specs.Sums.{sides_at}
use Rattle.nf_curve_def.specs.Differences.{do_differ, turn_at, differ_at}
use Rattle.nf_curve_def.specs.Least.{is_crossed, least_point, crossing}

-- appends the next points to `front`
abbrev pub behind : List Point → Checked (List Point) → Checked (List Point)
behind front next = do
  more ← next
  Ok (front ++ more)

-- appends the points of the pointwise minimum after the time of `before`, up to the time of `now`, to `front`
abbrev pub lesser_step : Passing → List Point → Sides → Sides → Checked (List Point)
lesser_step passes front before now = do
  between ← crossing passes (is_crossed before now) before now
  Ok (front ++ (between ++ least_point now ∷ []))

-- tests whether the slopes before and after the middle one of three points differ; false without a first or middle point
abbrev pub turn_between : Passing → Option Point → Option Point → Option Point → Checked Bool
turn_between passes (Some p) (Some q) None = turn_at passes p q []
turn_between passes (Some p) (Some q) (Some r) = turn_at passes p q (r ∷ [])
turn_between passes None q r = Ok false
turn_between passes (Some p) None r = Ok false

-- returns both values at a time, if it is a corner and they differ
abbrev pub difference_step : Passing → List Point → List Point → ℚ → Checked (Option Sides)
difference_step passes left right time = do
  sides ← sides_at passes left right time
  ends ← differ_at passes (do_differ sides) time left right
  Ok (if ends then Some sides else None)
