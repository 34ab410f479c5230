-- Theorems about the rational numbers: they are an ordered field whose order is decidable.
use Rattle.std.specs.Prelude.{◌≡◌, ◌≢◌, ◌⊎◌, ◌↔◌, true, pos, ◌+ℤ◌, ◌*ℤ◌, ℤ}
use Rattle.nf_rational.specs.Rational.{ℚ, ratio}
use Rattle.nf_rational.specs.Operations.{0ℚ, 1ℚ, whole, neg_ℚ, ◌+ℚ◌, ◌-ℚ◌, ◌*ℚ◌, ◌/ℚ◌}
use Rattle.nf_rational.specs.Order.{◌≤ℚ◌, ◌<ℚ◌, le_ℚ, lt_ℚ, min_ℚ, max_ℚ}

-- the rational numbers are a commutative ring, in which whole numbers are those of ℤ
pub record IsRing : Type 0 where
  pub plus_assoc : (x y z : ℚ) → (x +ℚ y) +ℚ z ≡ x +ℚ (y +ℚ z)
  pub plus_comm : (x y : ℚ) → x +ℚ y ≡ y +ℚ x
  pub zero_plus : (x : ℚ) → 0ℚ +ℚ x ≡ x
  pub minus_self : (x : ℚ) → x -ℚ x ≡ 0ℚ
  pub minus_is : (x y : ℚ) → x -ℚ y ≡ x +ℚ neg_ℚ y
  pub times_assoc : (x y z : ℚ) → (x *ℚ y) *ℚ z ≡ x *ℚ (y *ℚ z)
  pub times_comm : (x y : ℚ) → x *ℚ y ≡ y *ℚ x
  pub one_times : (x : ℚ) → 1ℚ *ℚ x ≡ x
  pub times_plus : (x y z : ℚ) → x *ℚ (y +ℚ z) ≡ x *ℚ y +ℚ x *ℚ z
  pub whole_plus : (a b : ℤ) → whole (a +ℤ b) ≡ whole a +ℚ whole b
  pub whole_times : (a b : ℤ) → whole (a *ℤ b) ≡ whole a *ℚ whole b

-- the quotient by a nonzero divisor is the only number whose product with the divisor is the dividend
pub record HasQuotients : Type 0 where
  pub times_quotient : (x y : ℚ) → y ≢ 0ℚ → y *ℚ (x /ℚ y) ≡ x
  pub only_one : (x y q : ℚ) → y ≢ 0ℚ → y *ℚ q ≡ x → q ≡ x /ℚ y

-- the order is total; adding a number and multiplying by a positive number preserve the strict order
pub record IsOrdered : Type 0 where
  pub reflexive : (x : ℚ) → x ≤ℚ x
  pub transitive : (x y z : ℚ) → x ≤ℚ y → y ≤ℚ z → x ≤ℚ z
  pub antisymmetric : (x y : ℚ) → x ≤ℚ y → y ≤ℚ x → x ≡ y
  pub total : (x y : ℚ) → (x <ℚ y) ⊎ (y ≤ℚ x)
  pub apart : (x y : ℚ) → x <ℚ y → y ≤ℚ x → ⊥
  pub weaker : (x y : ℚ) → x <ℚ y → x ≤ℚ y
  pub sums_keep : (x y z : ℚ) → x <ℚ y → x +ℚ z <ℚ y +ℚ z
  pub products_keep : (x y z : ℚ) → 0ℚ <ℚ z → x <ℚ y → x *ℚ z <ℚ y *ℚ z

-- the tests decide the order
pub record IsDecided : Type 0 where
  pub at_most : (x y : ℚ) → (le_ℚ x y ≡ true) ↔ (x ≤ℚ y)
  pub below : (x y : ℚ) → (lt_ℚ x y ≡ true) ↔ (x <ℚ y)
  pub lesser : (x y : ℚ) → ((min_ℚ x y ≡ x) × (x ≤ℚ y)) ⊎ ((min_ℚ x y ≡ y) × (y <ℚ x))
  pub greater : (x y : ℚ) → ((max_ℚ x y ≡ y) × (x ≤ℚ y)) ⊎ ((max_ℚ x y ≡ x) × (y <ℚ x))

-- numbers with equal cross products are equal, so reduced fractions are unique
pub record RatiosAreReduced : Type 0 where
  pub crosswise : (x y : ℚ) → x.num *ℤ pos y.den ≡ y.num *ℤ pos x.den → x ≡ y
  pub own_parts : (x : ℚ) → ratio x.num x.den ≡ x
