-- Comparison of two curves.
use Rattle.std.specs.Prelude.{List}
use Rattle.nf_rational.specs.Rational.{ℚ}
use Rattle.nf_rational.specs.Operations.{0ℚ}
use Rattle.nf_rational.specs.Order.{◌≤ℚ◌}
use Rattle.nf_model.specs.Curve.{Within, value}

-- at every time from 0 to `last` the first curve is at most the second
abbrev pub IsBelow : List (ℚ × ℚ) → List (ℚ × ℚ) → ℚ → Type 0
IsBelow lower upper last = (time : ℚ) → Within 0ℚ last time → value lower time ≤ℚ value upper time
