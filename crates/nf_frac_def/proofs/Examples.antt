-- How examples are written: whole numbers, and numbers by their numerator and denominator.
use Rattle.std.specs.Prelude.{ℕ, ℤ, pos}
use Rattle.nf_rational.specs.Rational.{ℚ}
use Rattle.nf_rational.specs.Operations.{whole}
use Rattle.nf_frac_def.specs.Passing.{Passing, passes_Q}

abbrev pub n : ℕ → ℚ
n k = whole (pos k)

-- which operation passes in fractions of 127 bits
abbrev pub in_127_bits : Passing
in_127_bits = passes_Q

abbrev pub Parts : Type 0
Parts = ℤ × ℕ

abbrev pub parts_of : ℚ → Parts
parts_of x = (x.num, x.den)
