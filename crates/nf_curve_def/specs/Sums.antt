-- The sum of two curves.
use Rattle.std.specs.Prelude.{List, Ok}
use Rattle.nf_rational.specs.Rational.{ℚ}
use Rattle.nf_frac_def.specs.Passing.{Passing}
use Rattle.nf_frac_def.specs.Checked.{Checked, checked, each, ◌>>=◌}
use Rattle.nf_frac_def.specs.declared.Op.TheVariants.{Sum}
use Rattle.nf_model.specs.Curve.{Point}
use Rattle.nf_curve_def.specs.Lines.{Sides}
use Rattle.nf_curve_def.specs.Values.{checked_value}
use Rattle.nf_curve_def.specs.Times.{both_times}

module _ (passes : Passing) where
  abbrev pub sides_at : List Point → List Point → ℚ → Checked Sides
  sides_at left right time = do
    l ← checked_value passes left time
    r ← checked_value passes right time
    Ok (record { time = time; left = l; right = r })

  abbrev pub sum_at : List Point → List Point → ℚ → Checked Point
  sum_at left right time = do
    sides ← sides_at left right time
    y ← checked passes Sum sides.left sides.right
    Ok (time, y)

  -- computes a point at each time of the two curves
  unfoldable pub checked_sum : List Point → List Point → Checked (List Point)
  checked_sum left right = each (sum_at left right) (both_times left right)
