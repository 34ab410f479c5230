-- Affine functions on an interval, and a queue during it.
use Rattle.std.specs.Prelude.{◌≡◌, Option, Some, None}
use Rattle.nf_rational.specs.Rational.{ℚ}
use Rattle.nf_rational.specs.Operations.{0ℚ, ◌+ℚ◌, ◌-ℚ◌, ◌*ℚ◌}
use Rattle.nf_rational.specs.Order.{◌≤ℚ◌, max_ℚ}

-- f increases by k per unit of time from a to b
pub record IsAffine (f : ℚ → ℚ) (a b k : ℚ) : Type 0 where
  pub line : (t : ℚ) → a ≤ℚ t → t ≤ℚ b → f t ≡ f a +ℚ k *ℚ (t -ℚ a)

-- returns the queue after the duration `while`, if it was `queue` before and the inflow has this rate; it changes at the rate less the
-- capacity, but never below 0
abbrev pub queue_after : Option ℚ → ℚ → ℚ → ℚ → ℚ
queue_after None rate queue while = 0ℚ
queue_after (Some capacity) rate queue while = max_ℚ 0ℚ (queue +ℚ (rate -ℚ capacity) *ℚ while)
