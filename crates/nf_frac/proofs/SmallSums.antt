-- The computed sums and products of small fractions: every number in them has at most 127 bits.
use Rattle.std.proofs.Common.{◌≡◌, ℕ, ◌*◌, ◌/◌, ◌<◌, ◌≤◌, ℤ, pos, ◌+ℤ◌, ◌*ℤ◌, nat_abs, sym, ◌∙◌, ap, subst, arith}
use Rattle.nf_frac.proofs.Common.{mul-le, gcd, IsGcd-gcd, ℚ, ratio, gcd_pos, part_pos, ◌+ℚ◌, abs-mul, plus_over_lcm, num_times, den_times, num_zero}
use Rattle.nf_frac.proofs.Common.{greatest, InForm, IsWithin, SumFits, short}
use mathlib.Core.Path.{ap₂}
use Prim.Native.Nat.{◌∣◌}
use lib.Signed.{quot_z}
use mir.Syntax.{w64, w128}
use mir.Val.{to_z, of_z, SFits}
use mir.Facts.{to_z_pos}
use native.Mathlib.Nat.{mul-pos, dvd_trans, mul-div_cancel', eq_of_mul-eq-mul_left}
use Rattle.nf_rational.specs.Operations.{◌*ℚ◌}
use Rattle.nf_rational_laws.proofs.Field.{+ℚ_idl, +ℚ_comm}
use Rattle.nf_frac.proofs.Bits.{bits_of, plain, fits_128, short_product}
use Rattle.nf_frac.proofs.Factors.{left_over, right_over, sum_over, factors_of_sum}
use Rattle.nf_frac.proofs.Form.{num_of, den_of, ratio_within, form_of, value_of}
use Rattle.nf_frac.proofs.Passing.{sum_within}
use Rattle.nf_frac.proofs.SmallParts.{abs_plus, bits_64, plain_64, kept_short, part_short, quotient_short, times_plain}

-- ---- sizes
short_times : (a b : ℕ) → a ≤ short → b ≤ short → a * b ≤ 85070591730234615847396907784232501249
short_times a b h k = omega (arith, mul-le a b short short h k)

total_small : (a b : ℤ) → nat_abs a ≤ 85070591730234615847396907784232501249 → nat_abs b ≤ 85070591730234615847396907784232501249 → nat_abs (a +ℤ b) ≤ greatest
total_small a b h k = omega (arith, abs_plus a b, h, k)

one_part : (n : ℤ) (k : ℕ) → nat_abs n ≤ short → k ≤ short → nat_abs (n *ℤ pos k) ≤ 85070591730234615847396907784232501249
one_part n k h l = subst (λ (m : ℕ). m ≤ 85070591730234615847396907784232501249) (sym (abs-mul n k)) (short_times (nat_abs n) k h l)

module _ (x y : ℚ) (xw : IsWithin short x) (yw : IsWithin short y) where
  left_short : left_over x y ≤ short
  left_short = part_short y.den (gcd x.den y.den) yw.small_den

  right_short : right_over x y ≤ short
  right_short = part_short x.den (gcd x.den y.den) xw.small_den

  pub sum_fits : SumFits greatest x y
  sum_fits = record {
    denominator = omega (arith, short_times x.den (left_over x y) xw.small_den left_short);
    left = omega (arith, one_part x.num (left_over x y) xw.small left_short);
    right = omega (arith, one_part y.num (right_over x y) yw.small right_short);
    total = total_small (x.num *ℤ pos (left_over x y)) (y.num *ℤ pos (right_over x y)) (one_part x.num (left_over x y) xw.small left_short)
        (one_part y.num (right_over x y) yw.small right_short);
  }

  pub product_fits : IsWithin greatest (x *ℚ y)
  unfolding ◌*ℚ◌
  product_fits =
      ratio_within greatest (x.num *ℤ y.num) (x.den * y.den) (mul-pos x.positive y.positive) (short_product x.num y.num xw.small yw.small)
      (omega (arith, short_times x.den y.den xw.small_den yw.small_den))

-- ---- a sum: the denominators d and e, their greatest common divisor g, and their quotients by g
division_first : (d l g : ℕ) → 0 < g → g ∣ d → d / g * l ≡ d * l / g
division_first d l g some h =
    eq_of_mul-eq-mul_left g some (d / g * l) (d * l / g) (moved g (d / g) l ∙ ap (λ (k : ℕ). k * l) (mul-div_cancel' g h) ∙ sym (mul-div_cancel' g (dvd_times g d l h)))
  where
    moved : (g a l : ℕ) → g * (a * l) ≡ g * a * l
    moved g a l = omega arith

    dvd_times : (g d l : ℕ) → g ∣ d → g ∣ d * l
    dvd_times g d l h = dvd_trans g h (native.Mathlib.Nat.dvd-mul_right d l)

module _ (x y : ℚ) (xw : IsWithin short x) (yw : IsWithin short y) (d e g l r : ℕ) (n m a b : ℤ)
    (xd : d ≡ x.den) (yd : e ≡ y.den) (common : g ≡ gcd d e) (left : l ≡ e / g) (right : r ≡ d / g)
    (xn : n ≡ x.num) (yn : m ≡ y.num) (first : a ≡ n *ℤ pos l) (second : b ≡ m *ℤ pos r) where
  g_is : g ≡ gcd x.den y.den
  g_is = common ∙ ap₂ gcd xd yd

  l_is : l ≡ left_over x y
  l_is = left ∙ ap₂ (λ (s t : ℕ). s / t) yd g_is

  r_is : r ≡ right_over x y
  r_is = right ∙ ap₂ (λ (s t : ℕ). s / t) xd g_is

  a_is : bits_of a ≡ x.num *ℤ pos (left_over x y)
  a_is = times_plain a x.num (left_over x y) (first ∙ ap₂ (λ (z : ℤ) (k : ℕ). z *ℤ pos k) xn l_is) xw.small (left_short x y xw yw)

  b_is : bits_of b ≡ y.num *ℤ pos (right_over x y)
  b_is = times_plain b y.num (right_over x y) (second ∙ ap₂ (λ (z : ℤ) (k : ℕ). z *ℤ pos k) yn r_is) yw.small (right_short x y xw yw)

  total_is : bits_of a +ℤ bits_of b ≡ sum_over x y
  total_is = ap₂ (λ (u v : ℤ). u +ℤ v) a_is b_is

  total_within : nat_abs (bits_of a +ℤ bits_of b) ≤ greatest
  total_within = subst (λ (z : ℤ). nat_abs z ≤ greatest) (sym total_is) (sum_fits x y xw yw).total

  pub total_fits : SFits w128 (bits_of a +ℤ bits_of b)
  total_fits = fits_128 _ total_within

  pub total_plain : bits_of (bits_of a +ℤ bits_of b) ≡ sum_over x y
  total_plain = plain _ total_within ∙ total_is

  module _ (s rest f den : ℕ) (q : ℤ) (size : s ≡ nat_abs (bits_of (bits_of a +ℤ bits_of b))) (over : rest ≡ gcd s g)
      (above : q ≡ quot_z (bits_of (bits_of a +ℤ bits_of b)) (pos rest)) (part : f ≡ d / rest) (below : den ≡ f * l) where
    size_is : s ≡ nat_abs (sum_over x y)
    size_is = size ∙ ap nat_abs total_plain

    rest_in : rest ≡ gcd (nat_abs (sum_over x y)) (gcd x.den y.den)
    rest_in = over ∙ ap₂ gcd size_is g_is

    rest_is : rest ≡ gcd (nat_abs (sum_over x y)) (x.den * left_over x y)
    rest_is = rest_in ∙ factors_of_sum x y

    lcm_positive : 0 < x.den * left_over x y
    lcm_positive = mul-pos x.positive (part_pos x.den y.den y.positive)

    rest_divides : rest ∣ x.den
    rest_divides =
        subst (λ (k : ℕ). k ∣ x.den) (sym rest_in)
        (dvd_trans (gcd (nat_abs (sum_over x y)) (gcd x.den y.den)) (IsGcd-gcd (nat_abs (sum_over x y)) (gcd x.den y.den)).1 (IsGcd-gcd x.den y.den).0)

    rest_some : 0 < rest
    rest_some = subst (λ (k : ℕ). 0 < k) (sym rest_is) (gcd_pos (nat_abs (sum_over x y)) (x.den * left_over x y) lcm_positive)

    sum_num : q ≡ (x +ℚ y).num
    sum_num =
        above ∙ ap₂ (λ (z : ℤ) (k : ℕ). quot_z z (pos k)) total_plain rest_is
        ∙ sym (num_of (sum_over x y) (x.den * left_over x y) lcm_positive)
        ∙ ap (λ (z : ℚ). z.num) (plus_over_lcm x y)

    sum_den : den ≡ (x +ℚ y).den
    sum_den =
        below ∙ ap₂ (λ (i j : ℕ). i * j) (part ∙ ap (λ (k : ℕ). k / rest) xd) l_is
        ∙ division_first x.den (left_over x y) rest rest_some rest_divides
        ∙ ap (λ (k : ℕ). x.den * left_over x y / k) rest_is
        ∙ sym (den_of (sum_over x y) (x.den * left_over x y) lcm_positive)
        ∙ ap (λ (z : ℚ). z.den) (plus_over_lcm x y)

    within : IsWithin greatest (x +ℚ y)
    within = sum_within greatest x y (sum_fits x y xw yw)

    pub sum_form : InForm (bits_of q) den
    sum_form = form_of (x +ℚ y) q den sum_num sum_den within

    pub sum_value : ratio (bits_of q) den ≡ x +ℚ y
    sum_value = value_of (x +ℚ y) q den sum_num sum_den within

-- ---- a product
module _ (x y : ℚ) (xw : IsWithin short x) (yw : IsWithin short y) (n m u v q : ℤ) (d e g h i j den : ℕ)
    (xd : d ≡ x.den) (yd : e ≡ y.den) (xn : n ≡ x.num) (yn : m ≡ y.num) (left : g ≡ gcd (nat_abs x.num) y.den) (other : h ≡ gcd (nat_abs y.num) x.den)
    (first : u ≡ quot_z n (pos g)) (second : v ≡ quot_z m (pos h)) (above : q ≡ u *ℤ v) (third : i ≡ d / h) (fourth : j ≡ e / g) (below : den ≡ i * j) where
  product_num : q ≡ (x *ℚ y).num
  product_num =
      above ∙ ap₂ (λ (a b : ℤ). a *ℤ b) (first ∙ ap₂ (λ (z : ℤ) (k : ℕ). quot_z z (pos k)) xn left) (second ∙ ap₂ (λ (z : ℤ) (k : ℕ). quot_z z (pos k)) yn other)
      ∙ sym (num_times x y)

  product_den : den ≡ (x *ℚ y).den
  product_den =
      below ∙ ap₂ (λ (a b : ℕ). a * b) (third ∙ ap₂ (λ (a b : ℕ). a / b) xd other) (fourth ∙ ap₂ (λ (a b : ℕ). a / b) yd left)
      ∙ sym (den_times x y)

  pub product_form : InForm (bits_of q) den
  product_form = form_of (x *ℚ y) q den product_num product_den (product_fits x y xw yw)

  pub product_value : ratio (bits_of q) den ≡ x *ℚ y
  product_value = value_of (x *ℚ y) q den product_num product_den (product_fits x y xw yw)

-- a divided numerator
part_within : (p n : ℤ) (g : ℕ) → p ≡ quot_z (bits_64 n) (pos g) → nat_abs n ≤ short → nat_abs p ≤ short
part_within p n g e h = subst (λ (z : ℤ). nat_abs z ≤ short) (sym (e ∙ ap (λ (z : ℤ). quot_z z (pos g)) (plain_64 n h))) (quotient_short n g h)

pub part_plain : (p n : ℤ) (g : ℕ) → p ≡ quot_z (bits_64 n) (pos g) → nat_abs n ≤ short → bits_64 p ≡ quot_z (bits_64 n) (pos g)
part_plain p n g e h = plain_64 p (part_within p n g e h) ∙ e

pub part_kept : (p n : ℤ) (g : ℕ) → p ≡ quot_z (bits_64 n) (pos g) → nat_abs n ≤ short → nat_abs (bits_64 p) ≤ short
part_kept p n g e h = kept_short p (part_within p n g e h)

-- ---- a sum with 0
pub zero_read : (z : ℤ) → nat_abs z ≤ short → of_z w64 z ≡ 0 → z ≡ pos 0
zero_read z h e = sym (plain_64 z h) ∙ ap (λ (k : ℕ). to_z w64 k) e ∙ to_z_pos w64 (omega arith)

pub right_alone : (x y : ℚ) → x.num ≡ pos 0 → y ≡ x +ℚ y
right_alone x y z = sym (ap (λ (q : ℚ). q +ℚ y) (num_zero x z) ∙ +ℚ_idl y)

pub left_alone : (x y : ℚ) → y.num ≡ pos 0 → x ≡ x +ℚ y
left_alone x y z = right_alone y x z ∙ +ℚ_comm y x
