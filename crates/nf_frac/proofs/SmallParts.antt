-- The number of a small fraction's stored parts, and the parts of a number.
use Rattle.std.proofs.Common.{◌≡◌, ℕ, ◌+◌, ◌/◌, ◌%◌, ◌≤◌, ℤ, pos, negsuc, ◌+ℤ◌, ◌*ℤ◌, nat_abs, refl, sym, ◌∙◌, ap, subst, arith}
use Rattle.nf_frac.proofs.Common.{IsGcd, same_from_IsGcd, IsGcd-from_mod, dvd_refl, gcd, IsGcd-gcd, ℚ, ratio, abs_quot, parts_ratio, greatest, IsWithin}
use Rattle.nf_frac.proofs.Common.{short, AreShortParts, short_back}
use mathlib.Core.Path.{ap₂}
use mir.Syntax.{w64, w128}
use mir.Val.{to_z, of_z, SFits}
use mir.Facts.{to_z-of_z, to_z_pos}
use lib.Signed.{quot_z}
use native.Mathlib.Nat.{div-le_self, one-dvd}
use borrow.Author.Differences.{ints}
use Rattle.nf_frac.proofs.Bits.{bits_of, fits_128, plain, short_product}
use Rattle.nf_frac.proofs.Form.{Parts}

abbrev pub bits_64 : ℤ → ℤ
bits_64 z = to_z w64 (of_z w64 z)

pub fits_64 : (z : ℤ) → nat_abs z ≤ short → SFits w64 z
fits_64 (pos n) h = record { sfits = omega arith }
fits_64 (negsuc n) h = record { sfits = omega arith }

pub plain_64 : (z : ℤ) → nat_abs z ≤ short → bits_64 z ≡ z
plain_64 z h = to_z-of_z (fits_64 z h)

pub kept_short : (z : ℤ) → nat_abs z ≤ short → nat_abs (bits_64 z) ≤ short
kept_short z h = subst (λ (y : ℤ). nat_abs y ≤ short) (sym (plain_64 z h)) h

-- a short number, cast to 128 bits and back
pub within_wide : (z : ℤ) → nat_abs z ≤ short → nat_abs z ≤ greatest
within_wide z h = omega (arith, h)

pub plain_widened : (z : ℤ) → nat_abs z ≤ short → bits_of (bits_64 z) ≡ z
plain_widened z h = ap bits_of (plain_64 z h) ∙ plain z (within_wide z h)

pub plain_narrowed : (z : ℤ) → nat_abs z ≤ short → bits_64 (bits_of z) ≡ z
plain_narrowed z h = ap bits_64 (plain z (within_wide z h)) ∙ plain_64 z h

pub narrowed_fits : (z : ℤ) → nat_abs z ≤ short → SFits w64 (bits_of z)
narrowed_fits z h = subst (SFits w64) (sym (plain z (within_wide z h))) (fits_64 z h)

pub short_parts : {x : ℚ} {n : ℤ} {d : ℕ} → AreShortParts n d → ratio n d ≡ x → Parts x n d
short_parts {x} {n} {d} h e = record {
  num = ap (λ (z : ℚ). z.num) (sym e) ∙ (short_back n d h).0;
  den = ap (λ (z : ℚ). z.den) (sym e) ∙ (short_back n d h).1;
}

pub short_num : {x : ℚ} {n : ℤ} {d : ℕ} → AreShortParts n d → ratio n d ≡ x → bits_64 n ≡ x.num
short_num {x} {n} {d} h e = plain_64 n h.small ∙ sym (short_parts h e).num

pub own_short : {x : ℚ} {n : ℤ} {d : ℕ} → AreShortParts n d → ratio n d ≡ x → IsWithin short x
own_short {x} {n} {d} h e = record {
  small = subst (λ (z : ℤ). nat_abs z ≤ short) (sym (short_parts h e).num) h.small;
  small_den = subst (λ (k : ℕ). k ≤ short) (sym (short_parts h e).den) h.small_den;
}

-- a number with short parts
pub called_short : (x : ℚ) (n : ℤ) (d : ℕ) → n ≡ x.num → nat_abs n ≤ short → d ≡ x.den → d ≤ short → IsWithin short x
called_short x n d e h f k = record { small = subst (λ (z : ℤ). nat_abs z ≤ short) e h; small_den = subst (λ (j : ℕ). j ≤ short) f k }

-- ---- a small fraction stored with the parts of a number
own_plain : (q : ℚ) (n : ℤ) → n ≡ q.num → nat_abs q.num ≤ short → bits_64 n ≡ q.num
own_plain q n e h = plain_64 n (subst (λ (z : ℤ). nat_abs z ≤ short) (sym e) h) ∙ e

pub short_form : (q : ℚ) (n : ℤ) (d : ℕ) → n ≡ q.num → d ≡ q.den → IsWithin short q → AreShortParts (bits_64 n) d
short_form q n d e f h =
    subst (λ (z : ℤ). AreShortParts z d) (sym (own_plain q n e h.small))
    (subst (λ (k : ℕ). AreShortParts q.num k) (sym f) (record { positive = q.positive; small = h.small; small_den = h.small_den; lowest = q.reduced }))

pub short_value : (q : ℚ) (n : ℤ) (d : ℕ) → n ≡ q.num → d ≡ q.den → IsWithin short q → ratio (bits_64 n) d ≡ q
short_value q n d e f h = ap₂ ratio (own_plain q n e h.small) f ∙ parts_ratio q

-- the stored fraction with these parts
pub stored : (n : ℤ) (d : ℕ) → AreShortParts n d → IsWithin short (ratio (bits_64 n) d)
stored n d h = subst (λ (z : ℤ). IsWithin short (ratio z d)) (sym (plain_64 n h.small)) (own_short h refl)

-- ---- greatest common divisors without a division
pub gcd_one : (a b : ℕ) → b ≡ 1 → 1 ≡ gcd a b
gcd_one a b e = same_from_IsGcd a b _ _ (subst (λ (k : ℕ). IsGcd a k 1) (sym e) (one-dvd a, one-dvd 1, λ g u v. v)) (IsGcd-gcd a b)

pub gcd_itself : (a b : ℕ) → a ≡ b → b ≡ gcd a b
gcd_itself a b e = same_from_IsGcd a b _ _ (subst (λ (k : ℕ). IsGcd k b b) (sym e) (dvd_refl b, dvd_refl b, λ g u v. v)) (IsGcd-gcd a b)

pub gcd_step : (a b g : ℕ) → g ≡ gcd b (a % b) → g ≡ gcd a b
gcd_step a b g e = e ∙ same_from_IsGcd a b _ _ (IsGcd-from_mod a b _ (IsGcd-gcd b (a % b))) (IsGcd-gcd a b)

-- a numerator and its own denominator have no common factor
pub own_factor : (x y : ℚ) (d e : ℕ) → x.den ≡ d → y.den ≡ e → d ≡ e → 1 ≡ gcd (nat_abs x.num) y.den
own_factor x y d e p q h = sym x.reduced ∙ ap (λ (k : ℕ). gcd (nat_abs x.num) k) (p ∙ h ∙ sym q)

-- a product of short numbers fits 128 bits
pub times_plain : (r a : ℤ) (b : ℕ) → r ≡ a *ℤ pos b → nat_abs a ≤ short → b ≤ short → bits_of r ≡ a *ℤ pos b
times_plain r a b e h k = ap bits_of e ∙ plain (a *ℤ pos b) (short_product a (pos b) h k)

-- ---- a product of a short number and a short natural number, each cast to 128 bits
module _ (a : ℤ) (b : ℕ) (small : nat_abs a ≤ short) (few : b ≤ short) where
  cast_factors : bits_of (bits_64 a) *ℤ bits_of (to_z w64 b) ≡ a *ℤ pos b
  cast_factors = ap₂ (λ (x y : ℤ). x *ℤ y) (ap bits_of (plain_64 a small) ∙ plain a (omega arith)) (ap bits_of (to_z_pos w64 (omega arith)) ∙ plain (pos b) (omega arith))

  product_within : nat_abs (a *ℤ pos b) ≤ greatest
  product_within = short_product a (pos b) small few

  pub cast_product_fits : SFits w128 (bits_of (bits_64 a) *ℤ bits_of (to_z w64 b))
  cast_product_fits = subst (SFits w128) (sym cast_factors) (fits_128 (a *ℤ pos b) product_within)

  pub cast_product : bits_of (bits_of (bits_64 a) *ℤ bits_of (to_z w64 b)) ≡ a *ℤ pos b
  cast_product = ap bits_of cast_factors ∙ plain (a *ℤ pos b) product_within

-- ---- the product of two short numbers, each cast to 128 bits
pub wide_product_is : (a b : ℤ) → nat_abs a ≤ short → nat_abs b ≤ short → bits_of (bits_of (bits_64 a) *ℤ bits_of (bits_64 b)) ≡ a *ℤ b
wide_product_is a b h k = ap₂ (λ (x y : ℤ). bits_of (x *ℤ y)) (plain_widened a h) (plain_widened b k) ∙ plain (a *ℤ b) (short_product a b h k)

-- ---- the sum of two short numbers, each cast to 128 bits
pub abs_plus : (a b : ℤ) → nat_abs (a +ℤ b) ≤ nat_abs a + nat_abs b
abs_plus a b = omega (arith, ints)

pub short_total : (a b : ℤ) → nat_abs a ≤ short → nat_abs b ≤ short → nat_abs (a +ℤ b) ≤ greatest
short_total a b h k = omega (arith, abs_plus a b, h, k)

pub wide_total_is : (a b : ℤ) → nat_abs a ≤ short → nat_abs b ≤ short → bits_of (bits_of (bits_64 a) +ℤ bits_of (bits_64 b)) ≡ a +ℤ b
wide_total_is a b h k = ap₂ (λ (x y : ℤ). bits_of (x +ℤ y)) (plain_widened a h) (plain_widened b k) ∙ plain (a +ℤ b) (short_total a b h k)

-- ---- a quotient of short numbers
pub part_short : (a g : ℕ) → a ≤ short → a / g ≤ short
part_short a g h = omega (arith, div-le_self a g)

pub quotient_short : (n : ℤ) (g : ℕ) → nat_abs n ≤ short → nat_abs (quot_z n (pos g)) ≤ short
quotient_short n g h = subst (λ (k : ℕ). k ≤ short) (sym (abs_quot n g)) (part_short (nat_abs n) g h)

module _ (a : ℤ) (b : ℕ) (small : nat_abs a ≤ short) (few : b ≤ short) where
  cast_parts : quot_z (bits_64 (bits_of a)) (to_z w64 b) ≡ quot_z a (pos b)
  cast_parts = ap₂ quot_z (plain_narrowed a small) (to_z_pos w64 (omega arith))

  pub cast_quotient_fits : SFits w64 (quot_z (bits_64 (bits_of a)) (to_z w64 b))
  cast_quotient_fits = subst (SFits w64) (sym cast_parts) (fits_64 _ (quotient_short a b small))

  cast_quotient : bits_64 (quot_z (bits_64 (bits_of a)) (to_z w64 b)) ≡ quot_z a (pos b)
  cast_quotient = ap bits_64 cast_parts ∙ plain_64 _ (quotient_short a b small)

  pub wide_quotient_fits : SFits w128 (bits_64 (quot_z (bits_64 (bits_of a)) (to_z w64 b)))
  wide_quotient_fits = subst (SFits w128) (sym cast_quotient) (fits_128 (quot_z a (pos b)) (within_wide (quot_z a (pos b)) (quotient_short a b small)))

  pub wide_quotient : bits_of (bits_64 (quot_z (bits_64 (bits_of a)) (to_z w64 b))) ≡ quot_z a (pos b)
  wide_quotient = ap bits_of cast_quotient ∙ plain (quot_z a (pos b)) (within_wide (quot_z a (pos b)) (quotient_short a b small))
