-- The computed product: each numerator is reduced with the other denominator before the multiplication.
use Rattle.std.proofs.Common.{◌≡◌, ℕ, ◌*◌, ◌/◌, ◌≤◌, ℤ, pos, ◌*ℤ◌, nat_abs, sym, ◌∙◌, ap, subst, arith}
use Rattle.nf_frac.proofs.Common.{gcd, ℚ, abs_quot, ◌*ℚ◌, num_times, den_times, greatest, IsWithin}
use mathlib.Core.Path.{ap₂}
use lib.Signed.{quot_z}
use native.Mathlib.Nat.{div-le_self}
use Rattle.nf_frac.proofs.Bits.{bits_of, plain}

-- the numerator n of x and the denominator e of y
module _ (x y : ℚ) (n q : ℤ) (a e g : ℕ) (xn : n ≡ x.num) (small : nat_abs x.num ≤ greatest) (ye : y.den ≡ e) (size : a ≡ nat_abs n) (common : g ≡ gcd a e)
    (part : q ≡ quot_z n (pos g)) where
  pub factor_is : g ≡ gcd (nat_abs x.num) y.den
  factor_is = common ∙ ap₂ gcd (size ∙ ap nat_abs xn) (sym ye)

  part_is : q ≡ quot_z x.num (pos (gcd (nat_abs x.num) y.den))
  part_is = part ∙ ap₂ (λ (z : ℤ) (k : ℕ). quot_z z (pos k)) xn factor_is

  part_small : nat_abs q ≤ greatest
  part_small = omega (arith, ap nat_abs part_is, abs_quot x.num (gcd (nat_abs x.num) y.den), div-le_self (nat_abs x.num) (gcd (nat_abs x.num) y.den))

  pub part_plain : bits_of q ≡ quot_z x.num (pos (gcd (nat_abs x.num) y.den))
  part_plain = plain q part_small ∙ part_is

-- the parts of the product
module _ (x y : ℚ) (q r : ℤ) (u v limit : ℕ)
    (left : q ≡ quot_z x.num (pos (gcd (nat_abs x.num) y.den)))
    (right : r ≡ quot_z y.num (pos (gcd (nat_abs y.num) x.den)))
    (below : u ≡ x.den / gcd (nat_abs y.num) x.den) (other : v ≡ y.den / gcd (nat_abs x.num) y.den) where
  num_is : q *ℤ r ≡ (x *ℚ y).num
  num_is = ap₂ (λ (a b : ℤ). a *ℤ b) left right ∙ sym (num_times x y)

  den_is : u * v ≡ (x *ℚ y).den
  den_is = ap₂ (λ (a b : ℕ). a * b) below other ∙ sym (den_times x y)

  pub no_num : (nat_abs (q *ℤ r) ≤ limit → ⊥) → IsWithin limit (x *ℚ y) → ⊥
  no_num n w = n (subst (λ (z : ℤ). nat_abs z ≤ limit) (sym num_is) w.small)

  pub no_den : (u * v ≤ limit → ⊥) → IsWithin limit (x *ℚ y) → ⊥
  no_den n w = n (subst (λ (k : ℕ). k ≤ limit) (sym den_is) w.small_den)

  module _ (num : ℤ) (den : ℕ) (s : (nat_abs (q *ℤ r) ≤ limit) × (num ≡ q *ℤ r)) (t : (u * v ≤ limit) × (den ≡ u * v)) where
    pub num_of_product : num ≡ (x *ℚ y).num
    num_of_product = s.1 ∙ num_is

    pub den_of_product : den ≡ (x *ℚ y).den
    den_of_product = t.1 ∙ den_is

    pub product_within : IsWithin limit (x *ℚ y)
    product_within = record {
      small = subst (λ (z : ℤ). nat_abs z ≤ limit) num_is s.0;
      small_den = subst (λ (k : ℕ). k ≤ limit) den_is t.0;
    }
