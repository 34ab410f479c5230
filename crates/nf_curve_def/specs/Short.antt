-- A curve in short form.
use Rattle.std.specs.Prelude.{if◌then◌else◌, List, [], ◌∷◌, Ok}
use Rattle.nf_rational.specs.Rational.{ℚ}
use Rattle.nf_frac_def.specs.Passing.{Passing}
use Rattle.nf_frac_def.specs.Checked.{Checked, ◌>>=◌}
use Rattle.nf_model.specs.Curve.{Point}
use Rattle.nf_rational.specs.Signs.{is_same}
use Rattle.nf_curve_def.specs.Lines.{checked_slope}

-- the points after the first, without those that have equal slopes on both sides; the slopes are those before each point
abbrev pub turning : List Point → List ℚ → List Point
turning (q ∷ rest) (before ∷ after ∷ slopes) = if is_same before after then turning rest (after ∷ slopes)
    else q ∷ turning rest (after ∷ slopes)
turning points slopes = points

abbrev pub short_points : List Point → List ℚ → List Point
short_points [] slopes = []
short_points (p ∷ rest) slopes = p ∷ turning rest slopes

module _ (passes : Passing) where
  -- the slope between each two neighbouring points
  abbrev pub checked_slopes : List Point → Checked (List ℚ)
  checked_slopes (p ∷ q ∷ rest) = do
    k ← checked_slope passes p q
    slopes ← checked_slopes (q ∷ rest)
    Ok (k ∷ slopes)
  checked_slopes points = Ok []

  unfoldable pub checked_short : List Point → Checked (List Point)
  checked_short points = do
    slopes ← checked_slopes points
    Ok (short_points points slopes)
