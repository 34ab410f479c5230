-- The order of the rational numbers.
use Rattle.std.specs.Prelude.{Bool, not, if◌then◌else◌, pos, ◌*ℤ◌, ◌≤ℤ◌, ◌<ℤ◌, int_le}
use Rattle.std.specs.Ordering.{int_cmp}
use Rattle.std.specs.declared.cmp.Ordering.{Ordering}
use Rattle.nf_rational.specs.Rational.{ℚ}

infix 50 ◌≤ℚ◌ ◌<ℚ◌
pub record ◌≤ℚ◌ (x y : ℚ) : Type 0 where
  pub le : (x.num *ℤ pos y.den) ≤ℤ (y.num *ℤ pos x.den)

pub record ◌<ℚ◌ (x y : ℚ) : Type 0 where
  pub lt : (x.num *ℤ pos y.den) <ℤ (y.num *ℤ pos x.den)

-- ---- tests of the order
unfoldable pub le_ℚ : ℚ → ℚ → Bool
le_ℚ x y = int_le (x.num *ℤ pos y.den) (y.num *ℤ pos x.den)

unfoldable pub lt_ℚ : ℚ → ℚ → Bool
lt_ℚ x y = not (le_ℚ y x)

abbrev pub cmp_ℚ : ℚ → ℚ → Ordering
cmp_ℚ x y = int_cmp (x.num *ℤ pos y.den) (y.num *ℤ pos x.den)

-- ---- minimum and maximum
unfoldable pub min_ℚ : ℚ → ℚ → ℚ
min_ℚ x y = if le_ℚ x y then x else y

unfoldable pub max_ℚ : ℚ → ℚ → ℚ
max_ℚ x y = if le_ℚ x y then y else x
