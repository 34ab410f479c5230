-- The tests of the code: a number is above 0; the lesser of two numbers.
use Rattle.std.proofs.Common.{◌≡◌, ℕ, Bool, true, false, not, ◌∙◌, refl, ap, arith, Some}
use Rattle.nf_residual.proofs.Common.{partial_lt, ℚ, 0ℚ, cmp_ℚ, times_one, zero_num, zero_den, lt-cmp}
use mathlib.Core.Path.{ap₂}
use lib.IntN.{ℤ, pos, ◌*ℤ◌, zero-*ℤ}
use lib.Signed.{le_z, lt_z}
use borrow.Author.Differences.{ints}
use Rattle.nf_rational.specs.Order.{le_ℚ, lt_ℚ}

flip : (n : ℤ) → not (le_z n (pos 0)) ≡ lt_z (pos 0) n
flip n = by_test (le_z n (pos 0)) (lt_z (pos 0) n) refl refl
  where
    both : (n : ℤ) → le_z n (pos 0) ≡ true → lt_z (pos 0) n ≡ true → ⊥
    both n e f = omega (arith, ints)

    none : (n : ℤ) → le_z n (pos 0) ≡ false → lt_z (pos 0) n ≡ false → ⊥
    none n e f = omega (arith, ints)

    by_test : (s t : Bool) → le_z n (pos 0) ≡ s → lt_z (pos 0) n ≡ t → not s ≡ t
    by_test true true e f = absurd (both n e f)
    by_test true false e f = refl
    by_test false true e f = refl
    by_test false false e f = absurd (none n e f)

-- A number is above 0 if its numerator is.
pub above_zero : (q : ℚ) → lt_ℚ 0ℚ q ≡ lt_z (pos 0) q.num
unfolding lt_ℚ le_ℚ
above_zero q =
    ap not (ap₂ le_z (ap (λ (d : ℕ). q.num *ℤ pos d) zero_den ∙ times_one q.num) (ap (λ (z : ℤ). z *ℤ pos q.den) zero_num ∙ zero-*ℤ (pos q.den)))
    ∙ flip q.num

pub less_by_order : (x y : ℚ) → partial_lt (λ (x y : ℚ). Some (cmp_ℚ x y)) x y ≡ lt_ℚ x y
less_by_order x y = lt-cmp x y
