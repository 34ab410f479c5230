-- The computed sum of two numbers with equal denominators.
use Rattle.std.proofs.Common.{◌≡◌, ℕ, ◌*◌, ◌/◌, ◌<◌, ◌≤◌, ℤ, pos, ◌+ℤ◌, ◌*ℤ◌, nat_abs, refl, sym, ◌∙◌, ap, subst, arith}
use Rattle.nf_frac.proofs.Common.{div_self, ℚ, ratio, gcd, ◌+ℚ◌, plus_over_lcm, times_one, greatest, SumFits, short}
use mathlib.Core.Path.{ap₂}
use Rattle.nf_frac.proofs.Bits.{bits_of, plain, kept_within}
use Rattle.nf_frac.proofs.Factors.{left_over, right_over, sum_over}
use Rattle.nf_frac.proofs.SmallParts.{bits_64, plain_64, gcd_itself, short_total}
use Rattle.nf_frac.proofs.Sums.{no_total, fits, value, n_plain}

few_times_one : (d : ℕ) → d ≤ short → (d * 1 ≤ short) × (d ≡ d * 1)
few_times_one d h = (omega (arith, h), omega arith)

itself : (k : ℕ) → k ≤ k
itself k = omega arith

-- a numerator, scaled by 1
scaled_by_one : (n a : ℤ) → n ≡ a → nat_abs n ≤ short → (nat_abs (a *ℤ pos 1) ≤ short) × (n ≡ a *ℤ pos 1)
scaled_by_one n a e h = (subst (λ (z : ℤ). nat_abs z ≤ short) (e ∙ sym (times_one a)) h, e ∙ sym (times_one a))

module _ (x y : ℚ) (d : ℕ) (n m : ℤ) (same : x.den ≡ y.den) (xd : d ≡ x.den) (few : d ≤ short) (xn : n ≡ x.num) (yn : m ≡ y.num)
    (small : nat_abs n ≤ short) (other_small : nat_abs m ≤ short) where
  one : 1 ≡ d / d
  one = sym (div_self {n = d} (subst (λ (k : ℕ). 0 < k) (sym xd) x.positive))

  pub no_level : (nat_abs (bits_64 n +ℤ bits_64 m) ≤ short → ⊥) → SumFits short x y → ⊥
  no_level =
      no_total bits_64 short plain_64 x y d d d 1 1 short (itself short) (sym xd) (sym (xd ∙ same)) (gcd_itself d d refl) one one n m
      (scaled_by_one n x.num xn small) (scaled_by_one m y.num yn other_small)

  module _ (t : ℤ) (w : (nat_abs (bits_64 n +ℤ bits_64 m) ≤ short) × (t ≡ bits_64 n +ℤ bits_64 m)) where
    pub level_fits : SumFits short x y
    level_fits =
        fits bits_64 short plain_64 x y d d d 1 1 short (itself short) (sym xd) (sym (xd ∙ same)) (gcd_itself d d refl) one one n m
        (scaled_by_one n x.num xn small) (scaled_by_one m y.num yn other_small) d t (few_times_one d few) w

    pub level_value : ratio (bits_64 t) d ≡ x +ℚ y
    level_value =
        ap (λ (z : ℤ). ratio z d)
        (n_plain bits_64 short plain_64 x y d d d 1 1 short (itself short) (sym xd) (sym (xd ∙ same)) (gcd_itself d d refl) one one n m
        (scaled_by_one n x.num xn small) (scaled_by_one m y.num yn other_small) d t (few_times_one d few) w)
        ∙ value bits_64 short plain_64 x y d d d 1 1 short (itself short) (sym xd) (sym (xd ∙ same)) (gcd_itself d d refl) one one n m
        (scaled_by_one n x.num xn small) (scaled_by_one m y.num yn other_small) d t (few_times_one d few) w

-- ---- in 128 bits, which every sum of two numerators fits
module _ (x y : ℚ) (same : x.den ≡ y.den) where
  left_one : left_over x y ≡ 1
  left_one = ap (λ (k : ℕ). y.den / k) (sym (gcd_itself x.den y.den same)) ∙ div_self {n = y.den} y.positive

  right_one : right_over x y ≡ 1
  right_one = ap (λ (k : ℕ). k / gcd x.den y.den) same ∙ left_one

  level_total : x.num +ℤ y.num ≡ sum_over x y
  level_total =
      ap₂ (λ (a b : ℤ). a +ℤ b)
      (sym (times_one x.num) ∙ ap (λ (k : ℕ). x.num *ℤ pos k) (sym left_one))
      (sym (times_one y.num) ∙ ap (λ (k : ℕ). y.num *ℤ pos k) (sym right_one))

  level_den : x.den ≡ x.den * left_over x y
  level_den = one_more x.den ∙ ap (λ (k : ℕ). x.den * k) (sym left_one)
    where
      one_more : (d : ℕ) → d ≡ d * 1
      one_more d = omega arith

  module _ (d : ℕ) (n m t : ℤ) (xd : d ≡ x.den) (xn : n ≡ x.num) (yn : m ≡ y.num) (small : nat_abs n ≤ short) (other_small : nat_abs m ≤ short)
      (total : t ≡ bits_64 n +ℤ bits_64 m) where
    total_plain : t ≡ n +ℤ m
    total_plain = total ∙ ap₂ (λ (a b : ℤ). a +ℤ b) (plain_64 n small) (plain_64 m other_small)

    total_small : nat_abs t ≤ greatest
    total_small = subst (λ (z : ℤ). nat_abs z ≤ greatest) (sym total_plain) (short_total n m small other_small)

    pub wide_level_small : nat_abs (bits_of t) ≤ greatest
    wide_level_small = kept_within t total_small

    pub wide_level_value : ratio (bits_of t) d ≡ x +ℚ y
    wide_level_value =
        ap₂ ratio (plain t total_small ∙ total_plain ∙ ap₂ (λ (a b : ℤ). a +ℤ b) xn yn ∙ level_total) (xd ∙ level_den)
        ∙ plus_over_lcm x y
