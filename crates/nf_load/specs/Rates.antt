-- Inflow rates that are known before a link is loaded.
use Rattle.std.specs.Prelude.{◌≡◌, Bool, true, false, List, [], ◌∷◌, Option, Some, None, Ok}
use Rattle.nf_rational.specs.Rational.{ℚ}
use Rattle.nf_rational.specs.Signs.{is_zero}
use Rattle.nf_frac_def.specs.Passing.{passes_Q}
use Rattle.nf_model.specs.Curve.{Point}
use Rattle.nf_curve_def.specs.Lines.{checked_slope}

-- the rates are the slopes of the first pieces of a curve, and no operation of them passes
abbrev pub AreRates : List Point → List ℚ → Type 0
AreRates points [] = Unit {0}
AreRates (p ∷ q ∷ rest) (rate ∷ rates) = (checked_slope passes_Q p q ≡ Ok rate) × AreRates (q ∷ rest) rates
AreRates points (rate ∷ rates) = ⊥

-- the rate, if it is known, is the slope from p to q, and no operation of it passes
abbrev pub IsRate : Option ℚ → Point → Point → Type 0
IsRate None p q = Unit {0}
IsRate (Some rate) p q = checked_slope passes_Q p q ≡ Ok rate

-- the rate, unless the time is 0
abbrev pub rate_after_0 : Bool → ℚ → List ℚ
rate_after_0 true rate = []
rate_after_0 false rate = rate ∷ []

abbrev pub rate_if_after_0 : ℚ → ℚ → List ℚ
rate_if_after_0 time rate = rate_after_0 (is_zero time) rate
