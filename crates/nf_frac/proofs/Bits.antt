-- Signed numbers converted to 128 bits and back.
use Rattle.std.proofs.Common.{◌≡◌, ℕ, ◌<◌, ◌≤◌, ℤ, pos, negsuc, ◌+ℤ◌, ◌*ℤ◌, nat_abs, sym, ◌∙◌, ap, subst, arith}
use Rattle.nf_frac.proofs.Common.{mul-le, abs-product, IsGcd, gcd, gcd_pos, gcd-le, greatest, short}
use mathlib.Core.Path.{ap₂}
use mir.Syntax.{w128}
use mir.Val.{to_z, of_z, SFits}
use mir.Facts.{to_z-of_z, to_z_pos}
use native.Mathlib.Nat.{one-dvd}

abbrev pub bits_of : ℤ → ℤ
bits_of z = to_z w128 (of_z w128 z)

pub fits_128 : (z : ℤ) → nat_abs z ≤ greatest → SFits w128 z
fits_128 (pos n) h = record { sfits = omega arith }
fits_128 (negsuc n) h = record { sfits = omega arith }

pub plain : (z : ℤ) → nat_abs z ≤ greatest → bits_of z ≡ z
plain z h = to_z-of_z (fits_128 z h)

-- the product of two short numbers
pub short_product : (a b : ℤ) → nat_abs a ≤ short → nat_abs b ≤ short → nat_abs (a *ℤ b) ≤ greatest
short_product a b h k = omega (arith, abs-product a b, mul-le (nat_abs a) (nat_abs b) short short h k)

pub short_times : (a b : ℤ) → SFits w128 a → SFits w128 b → nat_abs a ≤ short → nat_abs b ≤ short → bits_of (bits_of a *ℤ bits_of b) ≡ a *ℤ b
short_times a b f g h k = ap₂ (λ (x y : ℤ). bits_of (x *ℤ y)) (to_z-of_z f) (to_z-of_z g) ∙ plain (a *ℤ b) (short_product a b h k)

-- a product or a sum of cast numbers fits if its magnitude does
pub product_bits_fit : (a b : ℤ) → SFits w128 a → SFits w128 b → nat_abs (a *ℤ b) ≤ greatest → SFits w128 (bits_of a *ℤ bits_of b)
product_bits_fit a b f g h = subst (SFits w128) (sym (ap₂ (λ (x y : ℤ). x *ℤ y) (to_z-of_z f) (to_z-of_z g))) (fits_128 (a *ℤ b) h)

pub sum_bits_fit : (a b : ℤ) → SFits w128 a → SFits w128 b → nat_abs (a +ℤ b) ≤ greatest → SFits w128 (bits_of a +ℤ bits_of b)
sum_bits_fit a b f g h = subst (SFits w128) (sym (ap₂ (λ (x y : ℤ). x +ℤ y) (to_z-of_z f) (to_z-of_z g))) (fits_128 (a +ℤ b) h)

-- a bound on a computed magnitude
pub size_of : (z : ℤ) (m limit : ℕ) → SFits w128 z → m ≡ nat_abs (bits_of z) → m ≤ limit → nat_abs z ≤ limit
size_of z m limit f e h = subst (λ (k : ℕ). k ≤ limit) (e ∙ ap nat_abs (to_z-of_z f)) h

pub size_along : (y z : ℤ) (m limit : ℕ) → y ≡ z → m ≡ nat_abs y → m ≤ limit → nat_abs z ≤ limit
size_along y z m limit e f h = subst (λ (k : ℕ). k ≤ limit) (f ∙ ap nat_abs e) h

pub size_beyond : (y z : ℤ) (m limit : ℕ) → y ≡ z → m ≡ nat_abs y → limit < m → nat_abs z ≤ limit → ⊥
size_beyond y z m limit e f h k = omega (arith, f ∙ ap nat_abs e, h, k)

-- a number within the greatest magnitude remains within it when it is cast
pub kept_within : (z : ℤ) → nat_abs z ≤ greatest → nat_abs (bits_of z) ≤ greatest
kept_within z h = subst (λ (y : ℤ). nat_abs y ≤ greatest) (sym (plain z h)) h

pub kept_below : (z : ℤ) → nat_abs z ≤ greatest → nat_abs (bits_of z) < 170141183460469231731687303715884105728
kept_below z h = omega (arith, kept_within z h)

-- ---- the clauses of greatest common divisors
pub gcd_positive : (a b g : ℕ) → g ≡ gcd a b → 0 < b → 0 < g
gcd_positive a b g e h = subst (λ (k : ℕ). 0 < k) (sym e) (gcd_pos a b h)

pub gcd_small : (a b g : ℕ) → g ≡ gcd a b → 0 < b → g ≤ b
gcd_small a b g e h = subst (λ (k : ℕ). k ≤ b) (sym e) (gcd-le a b h)

-- a natural number, cast
pub cast_plain : (k : ℕ) → k ≤ greatest → to_z w128 k ≡ pos k
cast_plain k h = to_z_pos w128 (omega arith)

-- the greatest common divisor of a number and 1 is 1
pub IsGcd-one : (a b : ℕ) → b ≡ 1 → IsGcd a b 1
IsGcd-one a b e = subst (λ (k : ℕ). IsGcd a k 1) (sym e) (one-dvd a, one-dvd 1, λ g u v. v)
