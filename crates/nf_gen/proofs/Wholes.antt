-- Whole numbers as rationals: their parts, how they are printed, their order, and that small ones fit.
use Rattle.std.proofs.Common.{◌≡◌, ℕ, zero, suc, ◌+◌, ◌-◌, ◌≤◌, false, [], ◌∷◌, ℤ, pos, nat_abs, inl, inr, refl, sym, ◌∙◌, ap, subst, arith, lit<, lit≤}
use Rattle.std.proofs.Common.{nat_lt}
use Rattle.nf_gen.proofs.Common.{le-ltb, or_from, cases_lt, ℚ, 0ℚ, ◌+ℚ◌, ◌≤ℚ◌, ◌<ℚ◌, ps_whole, Sum, bound_of, passes_Q, digits_of, printed, IsFraction}
use Rattle.nf_rational.specs.Operations.{whole}
use Rattle.nf_rational.proofs.Lowest.{num-ratio, den-ratio}
use Rattle.nf_rational_laws.proofs.Field.{whole-plus}
use Rattle.nf_rational_laws.proofs.Polynomial.{reading_of}
use Rattle.nf_rational_laws.proofs.Linear.{le, lt, eq, linear_false}
use Rattle.nf_frac_def.specs.Passing.{beyond}
use Rattle.nf_frac_words.specs.Printed.{printed_parts}
use Rattle.nf_frac_words.proofs.Bytes.{printed_by_parts}
use Rattle.nf_net_def.specs.Numbers.{greatest}
use Rattle.nf_frac.specs.Parts.{IsWithin}
use Rattle.nf_frac.specs.Short.{short}
use Rattle.nf_frac.proofs.SmallParts.{gcd_one}
use Rattle.nf_frac.proofs.SmallSums.{sum_fits}
use Rattle.nf_frac.proofs.Passing.{sum_in}

-- ---- the parts
pub num-whole : (n : ℕ) → (whole (pos n)).num ≡ pos n
unfolding whole
num-whole n = num-ratio (pos n) 1 (lit< tt) (sym (gcd_one n 1 refl))

pub den-whole : (n : ℕ) → (whole (pos n)).den ≡ 1
unfolding whole
den-whole n = den-ratio (pos n) 1 (lit< tt) (sym (gcd_one n 1 refl))

pub printed-whole : (n : ℕ) → printed (whole (pos n)) ≡ digits_of n
unfolding printed_parts
printed-whole n = sym (printed_by_parts (whole (pos n)) (pos n) 1 (num-whole n) (den-whole n))

-- ---- small ones fit
pub small_fraction : (n : ℕ) → n ≤ 1000 → IsFraction (whole (pos n))
small_fraction n h = or_from (nat_lt greatest (nat_abs (whole (pos n)).num)) (nat_lt greatest (whole (pos n)).den)
    (le-ltb greatest (nat_abs (whole (pos n)).num) (subst (λ (z : ℤ). nat_abs z ≤ greatest) (sym (num-whole n)) (let big : 1000 ≤ greatest = lit≤ tt in omega arith)))
    (le-ltb greatest (whole (pos n)).den (subst (λ (k : ℕ). k ≤ greatest) (sym (den-whole n)) (lit≤ tt)))

within : (n : ℕ) → n ≤ 1000 → IsWithin short (whole (pos n))
within n h = record {
  small = subst (λ (z : ℤ). nat_abs z ≤ short) (sym (num-whole n)) (let big : 1000 ≤ short = lit≤ tt in omega arith);
  small_den = subst (λ (k : ℕ). k ≤ short) (sym (den-whole n)) (lit≤ tt);
}

pub small_sum : (m n : ℕ) → m ≤ 1000 → n ≤ 1000 → passes_Q Sum (whole (pos m)) (whole (pos n)) ≡ false
unfolding beyond
small_sum m n h k = sum_in (bound_of 127) (whole (pos m)) (whole (pos n)) (sum_fits (whole (pos m)) (whole (pos n)) (within m h) (within n k))

-- ---- sums and order
pub sum_whole : (m n : ℕ) → whole (pos m) +ℚ whole (pos n) ≡ whole (pos (m + n))
sum_whole m n = sym (whole-plus (pos m) (pos n))

past : (x y z : ℚ) → x ≤ℚ y → x ≡ y +ℚ z → 0ℚ <ℚ z → ⊥
past x y z h e k = linear_false (x ∷ y ∷ z ∷ []) (le h ∷ eq e ∷ lt k ∷ []) (search reading_of depth 12) tt

pub below_whole : (m n : ℕ) → whole (pos m) ≤ℚ whole (pos n) → m ≤ n
below_whole m n h = elim (cases_lt n m) [
  | inl more ↦ absurd (past (whole (pos m)) (whole (pos n)) (whole (pos (suc (m - suc n)))) h
      (let e : m ≡ n + suc (m - suc n) = omega arith in ap (λ (k : ℕ). whole (pos k)) e ∙ whole-plus (pos n) (pos (suc (m - suc n)))) (ps_whole (m - suc n)))
  | inr fine ↦ fine
]

pub above_zero : (n : ℕ) → 1 ≤ n → 0ℚ <ℚ whole (pos n)
above_zero zero h = absurd (omega arith)
above_zero (suc n) h = ps_whole n
