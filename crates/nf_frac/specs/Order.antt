-- Equality of rational numbers as a test of their parts.
use Rattle.std.specs.Prelude.{Bool, ◌&&◌, ◌==◌}
use Rattle.std.specs.Ordering.{int_eq}
use Rattle.nf_rational.specs.Rational.{ℚ}

abbrev pub same_ℚ : ℚ → ℚ → Bool
same_ℚ x y = int_eq x.num y.num && (x.den == y.den)
