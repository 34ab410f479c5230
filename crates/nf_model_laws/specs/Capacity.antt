-- Positive capacities.
use Rattle.std.specs.Prelude.{◌≡◌, Option, Some}
use Rattle.nf_rational.specs.Rational.{ℚ}
use Rattle.nf_rational.specs.Operations.{0ℚ}
use Rattle.nf_rational.specs.Order.{◌<ℚ◌}

-- the capacity is positive, if the link has one
abbrev pub IsPositive : Option ℚ → Type 0
IsPositive capacity = (rate : ℚ) → capacity ≡ Some rate → 0ℚ <ℚ rate
