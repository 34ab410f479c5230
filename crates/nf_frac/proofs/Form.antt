-- The number of a fraction's stored parts, and the parts of a number.
use Rattle.std.proofs.Common.{◌≡◌, ℕ, zero, suc, ◌/◌, ◌<◌, ◌≤◌, Bool, true, false, ℤ, pos, neg_ℤ, nat_abs, refl, sym, ◌∙◌, ap, subst, arith, Option, None}
use Rattle.std.proofs.Common.{SomeIff}
use Rattle.nf_frac.proofs.Common.{gcd, ℚ, abs_quot, parts_ratio, greatest, InForm, IsWithin, signed}
use mathlib.Core.Path.{ap₂}
use lib.Signed.{quot_z}
use native.Mathlib.Nat.{div-le_self, zero-div}
use Rattle.nf_rational.specs.Rational.{ratio}
use Rattle.nf_frac.specs.Form.{parts_back}
use Rattle.nf_frac.proofs.Bits.{bits_of, plain}

pub record Parts (x : ℚ) (n : ℤ) (d : ℕ) : Type 0 where
  pub num : x.num ≡ n
  pub den : x.den ≡ d

pub parts_of : {x : ℚ} {n : ℤ} {d : ℕ} → InForm n d → ratio n d ≡ x → Parts x n d
parts_of {x} {n} {d} h e = record {
  num = ap (λ (z : ℚ). z.num) (sym e) ∙ (parts_back n d h).0;
  den = ap (λ (z : ℚ). z.den) (sym e) ∙ (parts_back n d h).1;
}

pub num_plain : {x : ℚ} {n : ℤ} {d : ℕ} → InForm n d → ratio n d ≡ x → bits_of n ≡ x.num
num_plain {x} {n} {d} h e = plain n h.small ∙ sym (parts_of h e).num

-- ---- a fraction stored with the parts of a number
along : (n : ℤ) (limit : ℕ) (m : ℤ) → n ≡ m → nat_abs m ≤ limit → nat_abs n ≤ limit
along n limit m e h = subst (λ (k : ℕ). k ≤ limit) (sym (ap nat_abs e)) h

pub own_plain : (q : ℚ) (n : ℤ) → n ≡ q.num → nat_abs q.num ≤ greatest → bits_of n ≡ q.num
own_plain q n e h = plain n (along n greatest q.num e h) ∙ e

pub form_of : (q : ℚ) (n : ℤ) (d : ℕ) → n ≡ q.num → d ≡ q.den → IsWithin greatest q → InForm (bits_of n) d
form_of q n d e f h =
    subst (λ (z : ℤ). InForm z d) (sym (own_plain q n e h.small))
    (subst (λ (k : ℕ). InForm q.num k) (sym f) (record { positive = q.positive; small = h.small; small_den = h.small_den; lowest = q.reduced }))

pub value_of : (q : ℚ) (n : ℤ) (d : ℕ) → n ≡ q.num → d ≡ q.den → IsWithin greatest q → ratio (bits_of n) d ≡ q
value_of q n d e f h = ap₂ ratio (own_plain q n e h.small) f ∙ parts_ratio q

-- ---- the parts of a ratio
pub num_of : (n : ℤ) (d : ℕ) → 0 < d → (ratio n d).num ≡ quot_z n (pos (gcd (nat_abs n) d))
unfolding ratio
num_of n zero some = absurd (omega arith)
num_of n (suc d) some = refl

pub den_of : (n : ℤ) (d : ℕ) → 0 < d → (ratio n d).den ≡ d / gcd (nat_abs n) d
unfolding ratio
den_of n zero some = absurd (omega arith)
den_of n (suc d) some = refl

pub ratio_within : (limit : ℕ) (n : ℤ) (d : ℕ) → 0 < d → nat_abs n ≤ limit → d ≤ limit → IsWithin limit (ratio n d)
ratio_within limit n d some h k = record {
  small = omega (arith, ap nat_abs (num_of n d some), abs_quot n (gcd (nat_abs n) d), div-le_self (nat_abs n) (gcd (nat_abs n) d));
  small_den = omega (arith, den_of n d some, div-le_self d (gcd (nat_abs n) d));
}

pub within_more : {limit : ℕ} {q : ℚ} → limit ≤ greatest → IsWithin limit q → IsWithin greatest q
within_more h w = record { small = omega (arith, w.small); small_den = omega (arith, w.small_den) }

-- ---- a sign and a magnitude
pub abs-signed : (negative : Bool) (m : ℕ) → nat_abs (signed negative m) ≡ m
abs-signed true zero = refl
abs-signed true (suc m) = refl
abs-signed false m = refl

no_part : (g : ℕ) → neg_ℤ (pos (0 / g)) ≡ pos (0 / g)
no_part g = rw (zero-div g) refl

pub quot-signed : (negative : Bool) (m g : ℕ) → quot_z (signed negative m) (pos g) ≡ signed negative (m / g)
quot-signed true zero g = sym (no_part g)
quot-signed true (suc m) g = refl
quot-signed false m g = refl

module _ (negative : Bool) (m d g above below : ℕ) (common : g ≡ gcd m d) (a : above ≡ m / g) (b : below ≡ d / g) (some : 0 < d) where
  same_common : gcd (nat_abs (signed negative m)) d ≡ g
  same_common = ap (λ (k : ℕ). gcd k d) (abs-signed negative m) ∙ sym common

  pub num_reduced : signed negative above ≡ (ratio (signed negative m) d).num
  num_reduced =
      ap (signed negative) a ∙ sym (quot-signed negative m g) ∙ sym (ap (λ (k : ℕ). quot_z (signed negative m) (pos k)) same_common) ∙ sym (num_of (signed negative m) d some)

  pub den_reduced : below ≡ (ratio (signed negative m) d).den
  den_reduced = b ∙ sym (ap (λ (k : ℕ). d / k) same_common) ∙ sym (den_of (signed negative m) d some)

  pub reduced_within : (limit : ℕ) → above ≤ limit → below ≤ limit → IsWithin limit (ratio (signed negative m) d)
  reduced_within limit h k = record {
    small = subst (λ (j : ℕ). j ≤ limit) (sym (abs-signed negative above) ∙ ap nat_abs num_reduced) h;
    small_den = subst (λ (j : ℕ). j ≤ limit) den_reduced k;
  }

  pub within_reduced : (limit : ℕ) → IsWithin limit (ratio (signed negative m) d) → (above ≤ limit) × (below ≤ limit)
  within_reduced limit w = (
    subst (λ (j : ℕ). j ≤ limit) (sym (sym (abs-signed negative above) ∙ ap nat_abs num_reduced)) w.small,
    subst (λ (j : ℕ). j ≤ limit) (sym den_reduced) w.small_den,
  )

-- a ratio with known common factors
module _ (n : ℤ) (d a common g below : ℕ) (q : ℤ) (size : a ≡ nat_abs n) (e : g ≡ gcd a common) (f : gcd (nat_abs n) common ≡ gcd (nat_abs n) d)
    (h : q ≡ quot_z n (pos g)) (b : below ≡ d / g) (some : 0 < d) where
  factor : g ≡ gcd (nat_abs n) d
  factor = e ∙ ap (λ (k : ℕ). gcd k common) size ∙ f

  pub num_over : q ≡ (ratio n d).num
  num_over = h ∙ ap (λ (k : ℕ). quot_z n (pos k)) factor ∙ sym (num_of n d some)

  pub den_over : below ≡ (ratio n d).den
  den_over = b ∙ ap (λ (k : ℕ). d / k) factor ∙ sym (den_of n d some)

-- the exit of a `?`
pub stops : {V : Type 0} (r : Option V) (P : Type 0) (v : V) → r ≡ None → (P → ⊥) → SomeIff r P v
stops {V} r P v e n = subst (λ (o : Option V). SomeIff o P v) (sym e) n

-- the parts of a stored number are within the greatest magnitude
pub own_within : {x : ℚ} {n : ℤ} {d : ℕ} → InForm n d → ratio n d ≡ x → IsWithin greatest x
own_within {x} {n} {d} h e = record {
  small = subst (λ (z : ℤ). nat_abs z ≤ greatest) (sym (parts_of h e).num) h.small;
  small_den = subst (λ (k : ℕ). k ≤ greatest) (sym (parts_of h e).den) h.small_den;
}
