-- One order after the other.
use Rattle.std.proofs.Common.{[], ◌∷◌, refl}
use Rattle.nf_rational_laws.proofs.Common.{ℚ, ◌≤ℚ◌, ◌<ℚ◌}
use Rattle.nf_rational_laws.proofs.Polynomial.{reading_of}
use Rattle.nf_rational_laws.proofs.Order.{≤ℚ_of_same}
use Rattle.nf_rational_laws.proofs.Linear.{le, lt, linear_le, linear_lt}

pub ≤ℚ_refl : (x : ℚ) → x ≤ℚ x
≤ℚ_refl x = ≤ℚ_of_same x x refl

pub ≤ℚ_trans : (x y z : ℚ) → x ≤ℚ y → y ≤ℚ z → x ≤ℚ z
≤ℚ_trans x y z h k = linear_le (x ∷ y ∷ z ∷ []) (le h ∷ le k ∷ []) (search reading_of) tt

pub <ℚ_trans : (x y z : ℚ) → x <ℚ y → y <ℚ z → x <ℚ z
<ℚ_trans x y z h k = linear_lt (x ∷ y ∷ z ∷ []) (lt h ∷ lt k ∷ []) (search reading_of) tt

pub ≤_<_trans : (x y z : ℚ) → x ≤ℚ y → y <ℚ z → x <ℚ z
≤_<_trans x y z h k = linear_lt (x ∷ y ∷ z ∷ []) (le h ∷ lt k ∷ []) (search reading_of) tt

pub <_≤_trans : (x y z : ℚ) → x <ℚ y → y ≤ℚ z → x <ℚ z
<_≤_trans x y z h k = linear_lt (x ∷ y ∷ z ∷ []) (lt h ∷ le k ∷ []) (search reading_of) tt
