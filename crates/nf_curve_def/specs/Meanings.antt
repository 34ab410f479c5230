-- The specified results of calls over curves.
use Rattle.std.specs.Prelude.{◌≡◌, ◌≢◌, List, [], ◌∷◌, Option, Some, None}
use Rattle.nf_rational.specs.Rational.{ℚ}
use Rattle.nf_rational.specs.Operations.{0ℚ, ◌+ℚ◌}
use Rattle.nf_rational.specs.Order.{◌≤ℚ◌, ◌<ℚ◌, min_ℚ}
use Rattle.nf_model.specs.Curve.{Within, value, IsCurve, IsShort, IsCorner}
use Rattle.nf_curve_def.specs.Lines.{Sides}

pub record IsSumOf (left right sum : List (ℚ × ℚ)) : Type 0 where
  pub curve : IsCurve sum
  pub values : (time : ℚ) → 0ℚ ≤ℚ time → value sum time ≡ value left time +ℚ value right time

pub record IsLeastOf (left right least : List (ℚ × ℚ)) : Type 0 where
  pub curve : IsCurve least
  pub values : (time : ℚ) → 0ℚ ≤ℚ time → value least time ≡ min_ℚ (value left time) (value right time)

-- `composed` has the values outer(inner(time)) at times from 0 to `last`
pub record IsComposedOf (outer inner : List (ℚ × ℚ)) (last : ℚ) (composed : List (ℚ × ℚ)) : Type 0 where
  pub curve : IsCurve composed
  pub values : (time : ℚ) → Within 0ℚ last time → value composed time ≡ value outer (value inner time)

-- `cut` has the values of `points` at times from 0 to `last`
pub record IsCutOf (points : List (ℚ × ℚ)) (last : ℚ) (cut : List (ℚ × ℚ)) : Type 0 where
  pub curve : IsCurve cut
  pub values : (time : ℚ) → Within 0ℚ last time → value cut time ≡ value points time

pub record IsShortOf (points short : List (ℚ × ℚ)) : Type 0 where
  pub curve : IsCurve short
  pub form : IsShort short
  pub values : (time : ℚ) → 0ℚ ≤ℚ time → value short time ≡ value points time

-- the curves agree at every time from 0 to `last`
abbrev pub Agree : List (ℚ × ℚ) → List (ℚ × ℚ) → ℚ → Type 0
Agree left right last = (time : ℚ) → Within 0ℚ last time → value left time ≡ value right time

-- the curves first differ at this corner of [0, `last`], with these values
pub record DifferFirst (left right : List (ℚ × ℚ)) (last : ℚ) (sides : Sides) : Type 0 where
  pub corner : IsCorner (left ∷ right ∷ []) last sides.time
  pub left_is : sides.left ≡ value left sides.time
  pub right_is : sides.right ≡ value right sides.time
  pub differ : sides.left ≢ sides.right
  pub first : (time : ℚ) → IsCorner (left ∷ right ∷ []) last time → time <ℚ sides.time → value left time ≡ value right time

abbrev pub IsDifference : List (ℚ × ℚ) → List (ℚ × ℚ) → ℚ → Option Sides → Type 0
IsDifference left right last None = Agree left right last
IsDifference left right last (Some sides) = DifferFirst left right last sides
