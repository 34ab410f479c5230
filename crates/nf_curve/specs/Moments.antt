-- Times of the merge of two curves' times. `IsMoment` holds if each count is the number of points at or before the time.
use Rattle.std.specs.Prelude.{◌≡◌, if◌then◌else◌, List, [], ◌∷◌, Option, Some, None}
use Rattle.nf_rational.specs.Rational.{ℚ}
use Rattle.nf_rational.specs.Operations.{0ℚ}
use Rattle.nf_rational.specs.Order.{◌≤ℚ◌, lt_ℚ}
use Rattle.nf_model.specs.Curve.{Point}
use Rattle.nf_curve.specs.Places.{count_until, times_after}
use Rattle.nf_curve.specs.declared.walk.Moment.{Moment}

pub record IsMoment (left right : List Point) (moment : Moment) : Type 0 where
  pub time : 0ℚ ≤ℚ moment.time
  pub left_place : moment.left ≡ count_until moment.time left
  pub right_place : moment.right ≡ count_until moment.time right

-- holds if the merge has ended, or its current time satisfies `IsMoment`
abbrev pub IsThere : List Point → List Point → Option Moment → Type 0
IsThere left right None = Unit {0}
IsThere left right (Some moment) = IsMoment left right moment

-- lists the current time of the merge and all later ones
abbrev pub times_left : List Point → List Point → Option Moment → List ℚ
times_left left right None = []
times_left left right (Some moment) = moment.time ∷ times_after moment.time left right

-- returns the current time of the merge, if it is before `last`
abbrev pub only_before : ℚ → Option Moment → Option Moment
only_before last None = None
only_before last (Some moment) = if lt_ℚ moment.time last then Some moment else None
