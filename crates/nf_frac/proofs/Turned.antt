-- The negation and the reciprocal of a fraction.
use Rattle.std.proofs.Common.{◌≡◌, ◌≢◌, ℕ, zero, suc, ◌<◌, ◌≤◌, Bool, true, false, ℤ, pos, negsuc, ◌-ℤ◌, neg_ℤ, nat_abs, refl, sym, ◌∙◌, ap, subst, arith}
use Rattle.nf_frac.proofs.Common.{IsGcd-swap, same_from_IsGcd, gcd, IsGcd-gcd, ℚ, 0ℚ, signed_as, num-ratio, den-ratio, IsWithin, signed, abs_positive}
use Rattle.nf_frac.proofs.Common.{num_zero, abs-neg}
use mathlib.Core.Path.{ap₂}
use lib.Signed.{lt_z}
use borrow.Author.Differences.{ints}
use Rattle.nf_rational.specs.Operations.{neg_ℚ, inv_ℚ}

-- ---- the negation
neg_lowest : (x : ℚ) → gcd (nat_abs (neg_ℤ x.num)) x.den ≡ 1
neg_lowest x = ap (λ (k : ℕ). gcd k x.den) (abs-neg x.num) ∙ x.reduced

pub num-neg : (x : ℚ) → (neg_ℚ x).num ≡ neg_ℤ x.num
unfolding neg_ℚ
num-neg x = num-ratio (neg_ℤ x.num) x.den x.positive (neg_lowest x)

pub den-neg : (x : ℚ) → (neg_ℚ x).den ≡ x.den
unfolding neg_ℚ
den-neg x = den-ratio (neg_ℤ x.num) x.den x.positive (neg_lowest x)

pub neg_within : (limit : ℕ) (x : ℚ) → IsWithin limit x → IsWithin limit (neg_ℚ x)
neg_within limit x w = record {
  small = subst (λ (k : ℕ). k ≤ limit) (sym (ap nat_abs (num-neg x) ∙ abs-neg x.num)) w.small;
  small_den = subst (λ (k : ℕ). k ≤ limit) (sym (den-neg x)) w.small_den;
}

pub minus_is : (x : ℚ) (n : ℤ) → n ≡ x.num → pos 0 -ℤ n ≡ (neg_ℚ x).num
minus_is x n e = from_zero n ∙ ap neg_ℤ e ∙ sym (num-neg x)
  where
    from_zero : (n : ℤ) → pos 0 -ℤ n ≡ neg_ℤ n
    from_zero n = omega (arith, ints)

-- ---- the reciprocal
pub num_apart : (x : ℚ) → x ≢ 0ℚ → 0 < nat_abs x.num
num_apart x h = abs_positive x.num (λ e. h (num_zero x e))

abs-signed_as : (n : ℤ) (d : ℕ) → nat_abs (signed_as n d) ≡ d
abs-signed_as (pos n) d = refl
abs-signed_as (negsuc n) zero = refl
abs-signed_as (negsuc n) (suc d) = refl

inv_lowest : (x : ℚ) → gcd (nat_abs (signed_as x.num x.den)) (nat_abs x.num) ≡ 1
inv_lowest x =
    ap (λ (k : ℕ). gcd k (nat_abs x.num)) (abs-signed_as x.num x.den)
    ∙ same_from_IsGcd x.den (nat_abs x.num) _ _ (IsGcd-gcd x.den (nat_abs x.num)) (IsGcd-swap (nat_abs x.num) x.den _ (IsGcd-gcd (nat_abs x.num) x.den))
    ∙ x.reduced

pub num-inv : (x : ℚ) → x ≢ 0ℚ → (inv_ℚ x).num ≡ signed_as x.num x.den
unfolding inv_ℚ
num-inv x h = num-ratio (signed_as x.num x.den) (nat_abs x.num) (num_apart x h) (inv_lowest x)

pub den-inv : (x : ℚ) → x ≢ 0ℚ → (inv_ℚ x).den ≡ nat_abs x.num
unfolding inv_ℚ
den-inv x h = den-ratio (signed_as x.num x.den) (nat_abs x.num) (num_apart x h) (inv_lowest x)

pub inv_within : (limit : ℕ) (x : ℚ) → x ≢ 0ℚ → IsWithin limit x → IsWithin limit (inv_ℚ x)
inv_within limit x h w = record {
  small = subst (λ (k : ℕ). k ≤ limit) (sym (ap nat_abs (num-inv x h) ∙ abs-signed_as x.num x.den)) w.small_den;
  small_den = subst (λ (k : ℕ). k ≤ limit) (sym (den-inv x h)) w.small;
}

signed_so : (n : ℤ) (d : ℕ) → signed (lt_z n (pos 0)) d ≡ signed_as n d
signed_so (pos n) d = ap (λ (t : Bool). signed t d) (no (lt_z (pos n) (pos 0)) refl)
  where
    wrong : (n : ℕ) → lt_z (pos n) (pos 0) ≡ true → ⊥
    wrong n e = omega (arith, ints)

    no : (t : Bool) → lt_z (pos n) (pos 0) ≡ t → lt_z (pos n) (pos 0) ≡ false
    no true e = absurd (wrong n e)
    no false e = e
signed_so (negsuc n) d = refl

-- the computed parts
pub inverse_num : (x : ℚ) (n s : ℤ) (d : ℕ) → x ≢ 0ℚ → n ≡ x.num → x.den ≡ d → s ≡ signed (lt_z n (pos 0)) d → s ≡ (inv_ℚ x).num
inverse_num x n s d h e f k = k ∙ signed_so n d ∙ ap₂ signed_as e (sym f) ∙ sym (num-inv x h)

pub inverse_den : (x : ℚ) (n : ℤ) (a : ℕ) → x ≢ 0ℚ → n ≡ x.num → a ≡ nat_abs n → a ≡ (inv_ℚ x).den
inverse_den x n a h e f = f ∙ ap nat_abs e ∙ sym (den-inv x h)
