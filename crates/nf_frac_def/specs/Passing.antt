-- Exact results of operations, and which operations pass a bound on the parts of fractions.
use Rattle.std.specs.Prelude.{ℕ, ◌-◌, ◌*◌, ◌/◌, ◌^◌, min, max, Bool, false, ◌||◌, nat_lt, pos, ◌+ℤ◌, ◌*ℤ◌, nat_abs}
use Rattle.nf_rational.specs.Gcd.{gcd}
use Rattle.nf_rational.specs.Rational.{ℚ}
use Rattle.nf_rational.specs.Operations.{neg_ℚ, ◌+ℚ◌, ◌-ℚ◌, ◌*ℚ◌, ◌/ℚ◌}
use Rattle.nf_frac_def.specs.declared.Op.{Op}
use Rattle.nf_frac_def.specs.declared.Op.TheVariants.{Sum, Difference, Product, Quotient}

-- which operation passes on which operands
abbrev pub Passing : Type 0
Passing = Op → ℚ → ℚ → Bool

-- the exact result
abbrev pub result_of : Op → ℚ → ℚ → ℚ
result_of Sum x y = x +ℚ y
result_of Difference x y = x -ℚ y
result_of Product x y = x *ℚ y
result_of Quotient x y = x /ℚ y

-- ---- the bound on the parts: 2^b - 1, where b is the number of bits, at least 8 and at most 127
abbrev pub bound_of : ℕ → ℕ
bound_of bits = 2 ^ max 8 (min 127 bits) - 1

-- a part of the reduced fraction is beyond the bound
abbrev pub is_wide : ℕ → ℚ → Bool
is_wide bound x = nat_lt bound (nat_abs x.num) || nat_lt bound x.den

-- the least common denominator, one of the two numerators scaled to it, or their sum is beyond the bound
abbrev pub sum_is_wide : ℕ → ℚ → ℚ → Bool
sum_is_wide bound x y =
    let common = gcd x.den y.den in
    let left = x.num *ℤ pos (y.den / common) in
    let right = y.num *ℤ pos (x.den / common) in
    nat_lt bound (x.den * (y.den / common))
    || (nat_lt bound (nat_abs left) || (nat_lt bound (nat_abs right) || nat_lt bound (nat_abs (left +ℤ right))))

-- opaque, so that proofs above speak of it by its name
unfoldable pub beyond : ℕ → Op → ℚ → ℚ → Bool
beyond bound Sum x y = sum_is_wide bound x y
beyond bound Difference x y = sum_is_wide bound x (neg_ℚ y)
beyond bound Product x y = is_wide bound (x *ℚ y)
beyond bound Quotient x y = is_wide bound (x /ℚ y)

-- the operations on fractions with parts of at most 127 bits that pass
abbrev pub passes_Q : Passing
passes_Q = beyond (bound_of 127)

-- No operation passes.
abbrev pub never : Passing
never op x y = false
