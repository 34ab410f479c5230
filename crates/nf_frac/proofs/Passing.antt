-- The results of the four operations, and which operations exceed the bound.
use Rattle.std.proofs.Common.{◌≡◌, ℕ, ◌*◌, ◌/◌, ◌≤◌, Bool, true, false, cond, ltb, pos, ◌*ℤ◌, nat_abs, refl, sym, ◌∙◌, ap, subst, arith, Ok, Err}
use Rattle.nf_frac.proofs.Common.{le_trans, gcd, ℚ, part_pos, neg_ℚ, inv_ℚ, ◌+ℚ◌, ◌*ℚ◌, plus_over_lcm, bound_of, is_wide, sum_is_wide, passes_Q, IsWithin}
use Rattle.nf_frac.proofs.Common.{SumFits, none_of, neither, not_lower, narrow_in, narrow_out}
use native.Mathlib.Nat.{mul-pos}
use borrow.Author.Tests.{ltb-false}
use Rattle.nf_rational.specs.Operations.{◌-ℚ◌, ◌/ℚ◌}
use Rattle.nf_frac_def.specs.declared.Op.{Op}
use Rattle.nf_frac_def.specs.declared.Op.TheVariants.{Sum, Difference, Product, Quotient}
use Rattle.nf_frac_def.specs.Passing.{beyond}
use Rattle.nf_frac_def.specs.Checked.{checked}
use Rattle.nf_frac.proofs.Form.{ratio_within}

-- ---- a sum
pub sum_in : (b : ℕ) (x y : ℚ) → SumFits b x y → sum_is_wide b x y ≡ false
sum_in b x y w = neither _ _ (not_lower b _ w.denominator) (neither _ _ (not_lower b _ w.left) (neither _ _ (not_lower b _ w.right) (not_lower b _ w.total)))

pub sum_out : (b : ℕ) (x y : ℚ) → sum_is_wide b x y ≡ false → SumFits b x y
sum_out b x y e =
    let h = none_of (ltb b (x.den * (y.den / gcd x.den y.den))) _ e in
    let i = none_of (ltb b (nat_abs (x.num *ℤ pos (y.den / gcd x.den y.den)))) _ h.1 in
    let j = none_of (ltb b (nat_abs (y.num *ℤ pos (x.den / gcd x.den y.den)))) _ i.1 in
    record { denominator = ltb-false b _ h.0; left = ltb-false b _ i.0; right = ltb-false b _ j.0; total = ltb-false b _ j.1 }

pub sum_within : (b : ℕ) (x y : ℚ) → SumFits b x y → IsWithin b (x +ℚ y)
sum_within b x y w =
    subst (λ (q : ℚ). IsWithin b q) (plus_over_lcm x y)
    (ratio_within b _ _ (mul-pos x.positive (part_pos x.den y.den y.positive)) w.total w.denominator)

-- ---- a test that fails, and a test that succeeds
so : (t : Bool) → (t ≡ false → ⊥) → t ≡ true
so true n = refl
so false n = absurd (n refl)

module _ {V E : Type 0} (t : Bool) (e : E) (v : V) where
  answer_ok : t ≡ false → Ok v ≡ cond t (Err e) (Ok v)
  answer_ok h = sym (ap (λ (s : Bool). cond s (Err e) (Ok v)) h)

  answer_err : t ≡ true → Err e ≡ cond t (Err e) (Ok v)
  answer_err h = sym (ap (λ (s : Bool). cond s (Err e) (Ok v)) h)

-- ---- the four operations
module _ (b : ℕ) (x y : ℚ) where
  pub sum_done : (q : ℚ) → SumFits b x y × (q ≡ x +ℚ y) → Ok q ≡ checked (beyond b) Sum x y
  unfolding checked beyond
  sum_done q w = ap Ok w.1 ∙ answer_ok (sum_is_wide b x y) _ (x +ℚ y) (sum_in b x y w.0)

  pub sum_passed : (SumFits b x y → ⊥) → Err (record { op = Sum; left = x; right = y }) ≡ checked (beyond b) Sum x y
  unfolding checked beyond
  sum_passed n = answer_err (sum_is_wide b x y) _ (x +ℚ y) (so _ (λ e. n (sum_out b x y e)))

  pub difference_done : (q : ℚ) → SumFits b x (neg_ℚ y) × (q ≡ x +ℚ neg_ℚ y) → Ok q ≡ checked (beyond b) Difference x y
  unfolding checked beyond ◌-ℚ◌
  difference_done q w = ap Ok w.1 ∙ answer_ok (sum_is_wide b x (neg_ℚ y)) _ (x +ℚ neg_ℚ y) (sum_in b x (neg_ℚ y) w.0)

  pub difference_passed : (SumFits b x (neg_ℚ y) → ⊥) → Err (record { op = Difference; left = x; right = y }) ≡ checked (beyond b) Difference x y
  unfolding checked beyond ◌-ℚ◌
  difference_passed n = answer_err (sum_is_wide b x (neg_ℚ y)) _ (x +ℚ neg_ℚ y) (so _ (λ e. n (sum_out b x (neg_ℚ y) e)))

  pub product_done : (q : ℚ) → IsWithin b (x *ℚ y) × (q ≡ x *ℚ y) → Ok q ≡ checked (beyond b) Product x y
  unfolding checked beyond
  product_done q w = ap Ok w.1 ∙ answer_ok (is_wide b (x *ℚ y)) _ (x *ℚ y) (narrow_in b (x *ℚ y) w.0)

  pub product_passed : (IsWithin b (x *ℚ y) → ⊥) → Err (record { op = Product; left = x; right = y }) ≡ checked (beyond b) Product x y
  unfolding checked beyond
  product_passed n = answer_err (is_wide b (x *ℚ y)) _ (x *ℚ y) (so _ (λ e. n (narrow_out b (x *ℚ y) e)))

  pub quotient_done : (q : ℚ) → IsWithin b (x *ℚ inv_ℚ y) × (q ≡ x *ℚ inv_ℚ y) → Ok q ≡ checked (beyond b) Quotient x y
  unfolding checked beyond ◌/ℚ◌
  quotient_done q w = ap Ok w.1 ∙ answer_ok (is_wide b (x *ℚ inv_ℚ y)) _ (x *ℚ inv_ℚ y) (narrow_in b (x *ℚ inv_ℚ y) w.0)

  pub quotient_passed : (IsWithin b (x *ℚ inv_ℚ y) → ⊥) → Err (record { op = Quotient; left = x; right = y }) ≡ checked (beyond b) Quotient x y
  unfolding checked beyond ◌/ℚ◌
  quotient_passed n = answer_err (is_wide b (x *ℚ inv_ℚ y)) _ (x *ℚ inv_ℚ y) (so _ (λ e. n (narrow_out b (x *ℚ inv_ℚ y) e)))

-- ---- a number within a bound
pub within_along : (b : ℕ) (p q : ℚ) → p ≡ q → IsWithin b q → IsWithin b p
within_along b p q e w = subst (λ (z : ℚ). IsWithin b z) (sym e) w

-- ---- an operation within a bound is within every greater bound
module _ (b c : ℕ) (wider : b ≤ c) where
  within_wider : (q : ℚ) → IsWithin b q → IsWithin c q
  within_wider q w = record { small = le_trans w.small wider; small_den = le_trans w.small_den wider }

  fits_wider : (x y : ℚ) → SumFits b x y → SumFits c x y
  fits_wider x y w = record { denominator = le_trans w.denominator wider; left = le_trans w.left wider; right = le_trans w.right wider; total = le_trans w.total wider }

  pub beyond_wider : (op : Op) (x y : ℚ) → beyond b op x y ≡ false → beyond c op x y ≡ false
  unfolding beyond
  beyond_wider Sum x y e = sum_in c x y (fits_wider x y (sum_out b x y e))
  beyond_wider Difference x y e = sum_in c x (neg_ℚ y) (fits_wider x (neg_ℚ y) (sum_out b x (neg_ℚ y) e))
  beyond_wider Product x y e = narrow_in c (x *ℚ y) (within_wider (x *ℚ y) (narrow_out b (x *ℚ y) e))
  beyond_wider Quotient x y e = narrow_in c (x /ℚ y) (within_wider (x /ℚ y) (narrow_out b (x /ℚ y) e))

pub short_passes_first : (op : Op) (x y : ℚ) → beyond (bound_of 63) op x y ≡ false → passes_Q op x y ≡ false
short_passes_first = beyond_wider (bound_of 63) (bound_of 127) (omega arith)
