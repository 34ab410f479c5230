-- Each operation sequence of curves gives the specified result, if no operation passes.
use Rattle.std.specs.Prelude.{◌≡◌, List, [], ◌∷◌, ◌++◌, Option, Ok}
use Rattle.nf_rational.specs.Rational.{ℚ}
use Rattle.nf_rational.specs.Operations.{0ℚ}
use Rattle.nf_rational.specs.Order.{◌≤ℚ◌}
use Rattle.nf_frac_def.specs.Passing.{Passing}
use Rattle.nf_model.specs.Curve.{Point, Within, value, IsCurve}
use Rattle.nf_curve_def.specs.Lines.{Sides}
use Rattle.nf_curve_def.specs.Values.{points_before, checked_value, checked_cut}
use Rattle.nf_curve_def.specs.Sums.{checked_sum}
use Rattle.nf_curve_def.specs.Least.{checked_least}
use Rattle.nf_curve_def.specs.Composed.{checked_composed}
use Rattle.nf_curve_def.specs.Short.{checked_short}
use Rattle.nf_curve_def.specs.Differences.{checked_difference}
use Rattle.nf_curve_def.specs.Meanings.{IsCutOf, IsSumOf, IsLeastOf, IsComposedOf, IsShortOf, IsDifference}

abbrev pub ValueIs : Type 0
ValueIs = (passes : Passing) (points : List Point) (time y : ℚ) → IsCurve points → 0ℚ ≤ℚ time → checked_value passes points time ≡ Ok y
    → y ≡ value points time

abbrev pub CutIs : Type 0
CutIs = (passes : Passing) (points : List Point) (last : ℚ) (cut : List Point) → IsCurve points → 0ℚ ≤ℚ last
    → checked_cut passes points last ≡ Ok cut
    → (cut ≡ points_before last points ++ (last, value points last) ∷ []) × IsCutOf points last cut

abbrev pub SumIs : Type 0
SumIs = (passes : Passing) (left right points : List Point) → IsCurve left → IsCurve right → checked_sum passes left right ≡ Ok points
    → IsSumOf left right points

abbrev pub LeastIs : Type 0
LeastIs = (passes : Passing) (left right points : List Point) → IsCurve left → IsCurve right → checked_least passes left right ≡ Ok points
    → IsLeastOf left right points

abbrev pub ComposedIs : Type 0
ComposedIs = (passes : Passing) (outer inner : List Point) (last : ℚ) (points : List Point) → IsCurve outer → IsCurve inner → 0ℚ ≤ℚ last
    → ((time : ℚ) → Within 0ℚ last time → 0ℚ ≤ℚ value inner time) → checked_composed passes outer inner last ≡ Ok points
    → IsComposedOf outer inner last points

abbrev pub ShortIs : Type 0
ShortIs = (passes : Passing) (points short : List Point) → IsCurve points → checked_short passes points ≡ Ok short → IsShortOf points short

abbrev pub DifferenceIs : Type 0
DifferenceIs = (passes : Passing) (left right : List Point) (last : ℚ) (difference : Option Sides) → IsCurve left → IsCurve right
    → 0ℚ ≤ℚ last
    → checked_difference passes left right last ≡ Ok difference → IsDifference left right last difference
