-- The first corner at which two curves differ.
use Rattle.std.specs.Prelude.{Bool, true, false, not, if◌then◌else◌, List, [], ◌∷◌, Option, Some, None, Ok}
use Rattle.nf_rational.specs.Rational.{ℚ}
use Rattle.nf_rational.specs.Operations.{0ℚ}
use Rattle.nf_rational.specs.Order.{lt_ℚ}
use Rattle.nf_frac_def.specs.Passing.{Passing}
use Rattle.nf_frac_def.specs.Checked.{Checked, ◌>>=◌}
use Rattle.nf_model.specs.Curve.{Point}
use Rattle.nf_rational.specs.Signs.{is_same}
use Rattle.nf_curve_def.specs.Lines.{Sides, checked_slope}
use Rattle.nf_curve_def.specs.Times.{both_times}
use Rattle.nf_curve_def.specs.Sums.{sides_at}

abbrev pub do_differ : Sides → Bool
do_differ sides = not (is_same sides.left sides.right)

abbrev pub times_before : ℚ → List ℚ → List ℚ
times_before last [] = []
times_before last (time ∷ times) = if lt_ℚ time last then time ∷ times_before last times else []

abbrev pub if_differ : Sides → Option Sides
if_differ sides = if do_differ sides then Some sides else None

module _ (passes : Passing) where
  -- tests whether the slopes before and after a point differ; the slope after the last point is 0
  abbrev pub turn_at : Point → Point → List Point → Checked Bool
  turn_at p q [] = do
    before ← checked_slope passes p q
    Ok (not (is_same before 0ℚ))
  turn_at p q (r ∷ rest) = do
    before ← checked_slope passes p q
    after ← checked_slope passes q r
    Ok (not (is_same before after))

  -- tests whether the slope changes at a time after the first point; performs no operation if the curve has no point there
  abbrev pub turns_from : ℚ → Point → List Point → Checked Bool
  turns_from time p [] = Ok false
  turns_from time p (q ∷ rest) = if is_same time q.0 then turn_at p q rest else turns_from time q rest

  abbrev pub checked_turn : ℚ → List Point → Checked Bool
  checked_turn time [] = Ok false
  checked_turn time (p ∷ rest) = turns_from time p rest

  -- examines the right curve only if the left one does not turn
  abbrev pub or_turns : Bool → ℚ → List Point → Checked Bool
  or_turns true time right = Ok true
  or_turns false time right = checked_turn time right

  abbrev pub turns_at : Bool → ℚ → List Point → List Point → Checked Bool
  turns_at true time left right = Ok true
  turns_at false time left right = do
    turns ← checked_turn time left
    or_turns turns time right

  -- tests whether a time is a corner, if the values differ there; time 0 is always a corner
  abbrev pub differ_at : Bool → ℚ → List Point → List Point → Checked Bool
  differ_at false time left right = Ok false
  differ_at true time left right = turns_at (is_same time 0ℚ) time left right

  abbrev pub difference_here : List Point → List Point → Sides → Bool → Checked (Option Sides) → Checked (Option Sides)
  difference_here left right sides true later = Ok (Some sides)
  difference_here left right sides false later = later

  abbrev pub difference_from : List Point → List Point → ℚ → List ℚ → Checked (Option Sides)
  difference_from left right last [] = do
    sides ← sides_at passes left right last
    Ok (if_differ sides)
  difference_from left right last (time ∷ times) = do
    sides ← sides_at passes left right time
    ends ← differ_at (do_differ sides) time left right
    difference_here left right sides ends (difference_from left right last times)

  -- finds the first difference at a corner of the merged times before `last`, or else at `last`
  unfoldable pub checked_difference : List Point → List Point → ℚ → Checked (Option Sides)
  checked_difference left right last = difference_from left right last (times_before last (both_times left right))
