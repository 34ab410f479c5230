-- Tests of signs, on which operations and curves depend. They are no operations, and never pass.
use Rattle.std.specs.Prelude.{Bool, ◌&&◌, ◌||◌}
use Rattle.nf_rational.specs.Rational.{ℚ}
use Rattle.nf_rational.specs.Operations.{0ℚ}
use Rattle.nf_rational.specs.Order.{le_ℚ, lt_ℚ}

-- The two numbers are equal.
abbrev pub is_same : ℚ → ℚ → Bool
is_same x y = le_ℚ x y && le_ℚ y x

abbrev pub is_zero : ℚ → Bool
is_zero x = is_same x 0ℚ

abbrev pub is_positive : ℚ → Bool
is_positive x = lt_ℚ 0ℚ x

-- One number is greater than 0 and the other less.
abbrev pub are_opposite : ℚ → ℚ → Bool
are_opposite x y = (lt_ℚ x 0ℚ && lt_ℚ 0ℚ y) || (lt_ℚ 0ℚ x && lt_ℚ y 0ℚ)
