-- A quotient of whole numbers as the ratio of their magnitudes with a sign. The bound on the parts.
use Rattle.std.proofs.Common.{◌≡◌, ◌≢◌, ℕ, suc, ◌-◌, ◌*◌, ◌%◌, ◌^◌, ◌<◌, ◌≤◌, min, max, Bool, true, false, not, ℤ, pos, negsuc, ◌*ℤ◌, neg_ℤ, nat_abs, []}
use Rattle.std.proofs.Common.{◌∷◌, refl, sym, ◌∙◌, ap, subst, arith}
use Rattle.nf_frac.proofs.Common.{same_from_IsGcd, gcd, IsGcd-gcd, ℚ, ratio, 0ℚ, ◌/ℚ◌, num-ratio, /ℚ-unique, abs_positive, bound_of, greatest, InForm}
use Rattle.nf_frac.proofs.Common.{IsWithin, IsMade, signed, AreShortParts}
use mathlib.Core.Path.{ap₂}
use mathlib.Core.Bool.{beq}
use borrow.Author.Differences.{ints}
use lib.Signed.{lt_z}
use native.Mathlib.Nat.{mod-le, one-dvd}
use mir.Syntax.{w128}
use mir.Val.{to_z}
use Rattle.std.proofs.Math.Pow.{pow_mono}
use Rattle.nf_rational.specs.Operations.{whole}
use Rattle.nf_rational_laws.proofs.Polynomial.{ring, combine, using, done, reading}
use Rattle.nf_rational_laws.proofs.IntegerRing.{ints_ring}
use Rattle.nf_rational_laws.proofs.Ratio.{Is-same, Is-times, Is-whole, Is-ratio}
use Rattle.nf_frac.proofs.Bits.{cast_plain}
use Rattle.nf_frac.proofs.Form.{ratio_within}

-- ---- whole numbers
pub lowest_one : (m : ℕ) → gcd m 1 ≡ 1
lowest_one m = same_from_IsGcd m 1 _ _ (IsGcd-gcd m 1) (one-dvd m, one-dvd 1, λ e u v. v)

pub num-whole : (n : ℤ) → (whole n).num ≡ n
unfolding whole
num-whole n = num-ratio n 1 (omega arith) (lowest_one (nat_abs n))

pub whole_apart : (d : ℤ) → d ≢ pos 0 → whole d ≢ 0ℚ
whole_apart d h e = h (sym (num-whole d) ∙ ap (λ (q : ℚ). q.num) e ∙ num-whole (pos 0))

-- ---- the sign of a quotient
two_signs : (a b : ℤ) → neg_ℤ a *ℤ neg_ℤ b ≡ a *ℤ b
two_signs a b = ring ints_ring (a ∷ b ∷ []) (search reading depth 30) tt

one_sign : (a b : ℤ) → a *ℤ neg_ℤ b ≡ neg_ℤ a *ℤ b
one_sign a b = ring ints_ring (a ∷ b ∷ []) (search reading depth 30) tt

-- ---- the bound on the parts
pub shifted : (m : ℕ) → m ≤ 127 → 1 * 2 ^ m % 340282366920938463463374607431768211456 - 1 ≤ greatest
shifted m h = omega (arith, mod-le (1 * 2 ^ m) 340282366920938463463374607431768211456, pow_mono {i = m} {j = 127} h)

one_in_bound : (bits : ℕ) → 1 ≤ bound_of bits
one_in_bound bits = let h : 2 ^ 8 ≤ 2 ^ max 8 (min 127 bits) = pow_mono {i = 8} {j = max 8 (min 127 bits)} (omega arith) in omega (arith, h)

pub within_bound : (bits : ℕ) {q : ℚ} → IsWithin 1 q → IsWithin (bound_of bits) q
within_bound bits w = record { small = omega (arith, w.small, one_in_bound bits); small_den = omega (arith, w.small_den, one_in_bound bits) }

-- ---- 0 and 1
module _ (k : ℕ) (few : k < 2) where
  pub natural_cast : to_z w128 k ≡ pos k
  natural_cast = cast_plain k (omega arith)

  pub natural_form : InForm (to_z w128 k) 1
  natural_form = subst (λ (z : ℤ). InForm z 1) (sym natural_cast) (record { positive = omega arith; small = omega arith; small_den = omega arith; lowest = lowest_one k })

  pub natural_value : ratio (to_z w128 k) 1 ≡ whole (pos k)
  unfolding whole
  natural_value = ap (λ (z : ℤ). ratio z 1) natural_cast

  pub natural_within : IsWithin 1 (ratio (to_z w128 k) 1)
  natural_within = subst (λ (z : ℤ). IsWithin 1 (ratio z 1)) (sym natural_cast) (ratio_within 1 (pos k) 1 (omega arith) (omega arith) (omega arith))

pub short_natural : (k : ℕ) → k < 2 → AreShortParts (pos k) 1
short_natural k few = record { positive = omega arith; small = omega arith; small_den = omega arith; lowest = lowest_one k }

pub short_natural_value : (k : ℕ) → ratio (pos k) 1 ≡ whole (pos k)
unfolding whole
short_natural_value k = refl

-- ---- the computed quotient: it is negative if exactly one of the two numbers is below 0
abbrev pub differ : ℤ → ℤ → Bool
differ n d = not (beq (lt_z n (pos 0)) (lt_z d (pos 0)))

not_below : (n : ℕ) → lt_z (pos n) (pos 0) ≡ false
not_below n = no (lt_z (pos n) (pos 0)) refl
  where
    wrong : (n : ℕ) → lt_z (pos n) (pos 0) ≡ true → ⊥
    wrong n e = omega (arith, ints)

    no : (t : Bool) → lt_z (pos n) (pos 0) ≡ t → lt_z (pos n) (pos 0) ≡ false
    no true e = absurd (wrong n e)
    no false e = e

signed_times : (n d : ℤ) → signed (differ n d) (nat_abs n) *ℤ d ≡ n *ℤ pos (nat_abs d)
signed_times (pos n) (pos d) = ap₂ (λ (s t : Bool). signed (not (beq s t)) n *ℤ pos d) (not_below n) (not_below d)
signed_times (pos n) (negsuc d) = ap (λ (s : Bool). signed (not (beq s true)) n *ℤ negsuc d) (not_below n) ∙ two_signs (pos n) (pos (suc d))
signed_times (negsuc n) (pos d) = ap (λ (t : Bool). signed (not (beq true t)) (suc n) *ℤ pos d) (not_below d)
signed_times (negsuc n) (negsuc d) = one_sign (pos (suc n)) (pos (suc d))

with_ones : (s d n e : ℤ) → s *ℤ d ≡ n *ℤ e → s *ℤ d *ℤ pos 1 ≡ n *ℤ (e *ℤ pos 1)
with_ones s d n e h = combine ints_ring (s ∷ d ∷ n ∷ e ∷ []) (using (pos 1) h (search reading depth 30) done) (search reading depth 30) tt

quotient_is : (n d : ℤ) → d ≢ pos 0 → ratio (signed (differ n d) (nat_abs n)) (nat_abs d) ≡ whole n /ℚ whole d
quotient_is n d h =
    /ℚ-unique (whole n) (whole d) _ (whole_apart d h)
    (Is-same _ _ _ _ (Is-times _ _ _ _ (Is-ratio (signed (differ n d) (nat_abs n)) (nat_abs d) (abs_positive d h)) (Is-whole d)) (Is-whole n)
    (with_ones _ d n (pos (nat_abs d)) (signed_times n d)))

-- n' and d' are the stored n and d, a and b their magnitudes
module _ (n d n' d' : ℤ) (a b limit : ℕ) (nn : n' ≡ n) (dd : d' ≡ d) (aa : a ≡ nat_abs n') (bb : b ≡ nat_abs d') (some : d ≢ pos 0) where
  ratio_is : ratio (signed (differ n' d') a) b ≡ whole n /ℚ whole d
  ratio_is =
      ap₂ (λ (s : ℤ) (k : ℕ). ratio s k) (ap₂ (λ (t : Bool) (k : ℕ). signed t k) (ap₂ differ nn dd) (aa ∙ ap nat_abs nn)) (bb ∙ ap nat_abs dd)
      ∙ quotient_is n d some

  pub made : (q : ℚ) → IsWithin limit (ratio (signed (differ n' d') a) b) × (q ≡ ratio (signed (differ n' d') a) b) → IsMade limit n d × (q ≡ whole n /ℚ whole d)
  made q w = (record { some = some; fits = subst (λ (z : ℚ). IsWithin limit z) ratio_is w.0 }, w.1 ∙ ratio_is)

  pub not_made : (IsWithin limit (ratio (signed (differ n' d') a) b) → ⊥) → IsMade limit n d → ⊥
  not_made wide m = wide (subst (λ (z : ℚ). IsWithin limit z) (sym ratio_is) m.fits)
