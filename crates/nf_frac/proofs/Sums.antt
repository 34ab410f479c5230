-- The computed sum.
use Rattle.std.proofs.Common.{◌≡◌, ℕ, ◌*◌, ◌/◌, ◌<◌, ◌≤◌, ℤ, pos, ◌+ℤ◌, ◌*ℤ◌, nat_abs, sym, ◌∙◌, ap, subst, arith}
use Rattle.nf_frac.proofs.Common.{gcd, ℚ, ratio, part_pos, ◌+ℚ◌, plus_over_lcm, SumFits}
use mathlib.Core.Path.{ap₂}
use native.Mathlib.Nat.{mul-pos}
use Rattle.nf_frac.proofs.Factors.{left_over, right_over, sum_over, factors_of_sum}

-- converting a number to its bits and back does not change it if it is at most `top` in magnitude
module _ (bits : ℤ → ℤ) (top : ℕ) (plain : (z : ℤ) → nat_abs z ≤ top → bits z ≡ z) where
  -- a computed number that fits
  fits_along : (limit : ℕ) (a u : ℤ) → limit ≤ top → (nat_abs u ≤ limit) × (a ≡ u) → bits a ≡ u
  fits_along limit a u narrow w = plain a (subst (λ (k : ℕ). k ≤ top) (sym (ap nat_abs w.1)) (omega (arith, w.0))) ∙ w.1

  -- x and y have the denominators d and e with the greatest common divisor g
  module _ (x y : ℚ) (d e g l r limit : ℕ) (narrow : limit ≤ top) (xd : x.den ≡ d) (yd : y.den ≡ e) (common : g ≡ gcd d e) (left : l ≡ e / g) (right : r ≡ d / g) where
    g_is : g ≡ gcd x.den y.den
    g_is = common ∙ sym (ap₂ gcd xd yd)

    pub l_is : l ≡ left_over x y
    l_is = left ∙ ap₂ (λ (a b : ℕ). a / b) (sym yd) g_is

    pub r_is : r ≡ right_over x y
    r_is = right ∙ ap₂ (λ (a b : ℕ). a / b) (sym xd) g_is

    den_is : d * l ≡ x.den * left_over x y
    den_is = ap₂ (λ (a b : ℕ). a * b) (sym xd) l_is

    left_is : x.num *ℤ pos l ≡ x.num *ℤ pos (left_over x y)
    left_is = ap (λ (k : ℕ). x.num *ℤ pos k) l_is

    right_is : y.num *ℤ pos r ≡ y.num *ℤ pos (right_over x y)
    right_is = ap (λ (k : ℕ). y.num *ℤ pos k) r_is

    pub no_denominator : (d * l ≤ limit → ⊥) → SumFits limit x y → ⊥
    no_denominator n h = n (subst (λ (k : ℕ). k ≤ limit) (sym den_is) h.denominator)

    pub no_left : (nat_abs (x.num *ℤ pos l) ≤ limit → ⊥) → SumFits limit x y → ⊥
    no_left n h = n (subst (λ (z : ℤ). nat_abs z ≤ limit) (sym left_is) h.left)

    pub no_right : (nat_abs (y.num *ℤ pos r) ≤ limit → ⊥) → SumFits limit x y → ⊥
    no_right n h = n (subst (λ (z : ℤ). nat_abs z ≤ limit) (sym right_is) h.right)

    module _ (a b : ℤ) (p : (nat_abs (x.num *ℤ pos l) ≤ limit) × (a ≡ x.num *ℤ pos l)) (q : (nat_abs (y.num *ℤ pos r) ≤ limit) × (b ≡ y.num *ℤ pos r)) where
      total_is : bits a +ℤ bits b ≡ sum_over x y
      total_is = ap₂ (λ (u v : ℤ). u +ℤ v) (fits_along limit a _ narrow p ∙ left_is) (fits_along limit b _ narrow q ∙ right_is)

      pub no_total : (nat_abs (bits a +ℤ bits b) ≤ limit → ⊥) → SumFits limit x y → ⊥
      no_total n h = n (subst (λ (z : ℤ). nat_abs z ≤ limit) (sym total_is) h.total)

      module _ (den : ℕ) (n : ℤ) (s : (d * l ≤ limit) × (den ≡ d * l)) (t : (nat_abs (bits a +ℤ bits b) ≤ limit) × (n ≡ bits a +ℤ bits b)) where
        pub n_is : n ≡ sum_over x y
        n_is = t.1 ∙ total_is

        pub n_small : nat_abs n ≤ limit
        n_small = subst (λ (z : ℤ). nat_abs z ≤ limit) (sym t.1) t.0

        pub n_plain : bits n ≡ n
        n_plain = plain n (omega (arith, n_small))

        pub fits : SumFits limit x y
        fits = record {
          denominator = subst (λ (k : ℕ). k ≤ limit) den_is s.0;
          left = subst (λ (z : ℤ). nat_abs z ≤ limit) left_is p.0;
          right = subst (λ (z : ℤ). nat_abs z ≤ limit) right_is q.0;
          total = subst (λ (z : ℤ). nat_abs z ≤ limit) total_is t.0;
        }

        pub value : ratio n den ≡ x +ℚ y
        value = ap₂ ratio n_is (s.1 ∙ den_is) ∙ plus_over_lcm x y

        pub den_positive : 0 < den
        den_positive = subst (λ (k : ℕ). 0 < k) (sym (s.1 ∙ den_is)) (mul-pos x.positive (part_pos x.den y.den y.positive))

        pub factor : gcd (nat_abs n) g ≡ gcd (nat_abs n) den
        factor =
            ap₂ (λ (z : ℤ) (k : ℕ). gcd (nat_abs z) k) n_is g_is
            ∙ factors_of_sum x y
            ∙ sym (ap₂ (λ (z : ℤ) (k : ℕ). gcd (nat_abs z) k) n_is (s.1 ∙ den_is))
