-- Sums, differences, products and quotients of rational numbers.
use Rattle.std.specs.Prelude.{ℕ, ◌*◌, ℤ, pos, negsuc, ◌+ℤ◌, ◌*ℤ◌, neg_ℤ, nat_abs}
use Rattle.nf_rational.specs.Rational.{ℚ, ratio}

infixl 65 ◌+ℚ◌ ◌-ℚ◌
infixl 70 ◌*ℚ◌ ◌/ℚ◌
-- the rational number of a whole number
unfoldable pub whole : ℤ → ℚ
whole n = ratio n 1

abbrev pub 0ℚ : ℚ
0ℚ = whole (pos 0)

abbrev pub 1ℚ : ℚ
1ℚ = whole (pos 1)

unfoldable pub ◌+ℚ◌ : ℚ → ℚ → ℚ
x +ℚ y = ratio (x.num *ℤ pos y.den +ℤ y.num *ℤ pos x.den) (x.den * y.den)

unfoldable pub neg_ℚ : ℚ → ℚ
neg_ℚ x = ratio (neg_ℤ x.num) x.den

unfoldable pub ◌-ℚ◌ : ℚ → ℚ → ℚ
x -ℚ y = x +ℚ neg_ℚ y

unfoldable pub ◌*ℚ◌ : ℚ → ℚ → ℚ
x *ℚ y = ratio (x.num *ℤ y.num) (x.den * y.den)

-- d with the sign of n
abbrev pub signed_as : ℤ → ℕ → ℤ
signed_as (pos n) d = pos d
signed_as (negsuc n) d = neg_ℤ (pos d)

-- the reciprocal of x, or 0 if x is 0
unfoldable pub inv_ℚ : ℚ → ℚ
inv_ℚ x = ratio (signed_as x.num x.den) (nat_abs x.num)

-- the quotient, or 0 if the divisor is 0
unfoldable pub ◌/ℚ◌ : ℚ → ℚ → ℚ
x /ℚ y = x *ℚ inv_ℚ y
