-- Lengths held as whole numbers: their operations don't exceed the bound, and their order is that of the numbers.
use Rattle.std.proofs.Common.{◌≡◌, ℕ, ◌<◌, ◌≤◌, Bool, true, false, ℤ, pos, ◌+ℤ◌, ◌-ℤ◌, ◌*ℤ◌, neg_ℤ, nat_abs, Option, Some, None, sym, ap, subst, ◌∙◌, arith}
use Rattle.std.proofs.Common.{Ok, SomeIff, IfSome}
use Rattle.nf_residual.proofs.Common.{int_cmp, ℚ, same_parts, ◌+ℚ◌, ◌/ℚ◌, neg_ℚ, cmp_ℚ, passes_Q, bound_of, checked, checked_at, at_part, op_of, bits_of}
use Rattle.nf_residual.proofs.Common.{plain, cast_plain, times_one, longest_whole, along_by, IsExactStep}
use mathlib.Core.Path.{ap₂}
use Rattle.nf_rational.specs.Operations.{whole}
use Rattle.nf_rational.proofs.Lowest.{den-ratio}
use Rattle.nf_rational_laws.proofs.Field.{whole-plus, whole-times}
use Rattle.nf_rational_laws.proofs.Quotient.{/ℚ-unique}
use Rattle.nf_frac_def.specs.declared.Part.TheVariants as Part
use Rattle.nf_frac.specs.Parts.{IsWithin, IsMade}
use Rattle.nf_frac.specs.Short.{short}
use Rattle.nf_frac.proofs.SmallSums.{sum_fits}
use Rattle.nf_frac.proofs.Turned.{neg_within, num-neg, den-neg}
use Rattle.nf_frac.proofs.SmallParts.{fits_64, plain_64}
use mir.Syntax.{w64, w128}
use mir.Val.{to_z, of_z, SFits}
use mir.Facts.{to_z-of_z}
use Rattle.nf_frac.proofs.Passing.{sum_done, difference_done}
use Rattle.nf_frac.proofs.Made.{whole_apart, lowest_one, num-whole}

-- ---- the parts of a whole number
den_whole : (n : ℤ) → (whole n).den ≡ 1
unfolding whole
den_whole n = den-ratio n 1 (omega arith) (lowest_one (nat_abs n))

pub whole_of : (q : ℚ) → q.den ≡ 1 → whole q.num ≡ q
whole_of q e = same_parts (whole q.num) q (num-whole q.num) (den_whole q.num ∙ sym e)

within_short : (n : ℤ) → nat_abs n ≤ longest_whole → IsWithin short (whole n)
within_short n h = record {
  small = subst (λ (z : ℤ). nat_abs z ≤ short) (sym (num-whole n)) (omega arith);
  small_den = subst (λ (k : ℕ). k ≤ short) (sym (den_whole n)) (omega arith);
}

whole_neg : (n : ℤ) → whole (neg_ℤ n) ≡ neg_ℚ (whole n)
whole_neg n =
    same_parts (whole (neg_ℤ n)) (neg_ℚ (whole n)) (num-whole (neg_ℤ n) ∙ sym (num-neg (whole n) ∙ ap neg_ℤ (num-whole n)))
    (den_whole (neg_ℤ n) ∙ sym (den-neg (whole n) ∙ den_whole n))

-- ---- their operations
pub sum_exact : (a b n : ℤ) → nat_abs a ≤ longest_whole → nat_abs b ≤ longest_whole → n ≡ a +ℤ b → Ok (whole n) ≡ checked passes_Q (op_of true) (whole a) (whole b)
sum_exact a b n h k e = sum_done (bound_of 127) (whole a) (whole b) (whole n) (sum_fits (whole a) (whole b) (within_short a h) (within_short b k), ap whole e ∙ whole-plus a b)

pub difference_exact : (a b n : ℤ) → nat_abs a ≤ longest_whole → nat_abs b ≤ longest_whole → n ≡ a -ℤ b → Ok (whole n) ≡ checked passes_Q (op_of false) (whole a) (whole b)
difference_exact a b n h k e =
    difference_done (bound_of 127) (whole a) (whole b) (whole n) (
      sum_fits (whole a) (neg_ℚ (whole b)) (within_short a h) (neg_within short (whole b) (within_short b k)),
      ap whole e ∙ whole-plus a (neg_ℤ b) ∙ ap (λ (q : ℚ). whole a +ℚ q) (whole_neg b),
    )

-- ---- their order
pub order_is : (a b : ℤ) → int_cmp a b ≡ cmp_ℚ (whole a) (whole b)
order_is a b = ap₂ int_cmp (one a b) (one b a)
  where
    one : (a b : ℤ) → a ≡ (whole a).num *ℤ pos (whole b).den
    one a b = sym (ap₂ (λ (z : ℤ) (k : ℕ). z *ℤ pos k) (num-whole a) (den_whole b) ∙ times_one a)

-- ---- numbers as the code has them
-- A value held as a whole number.
pub counted_is : (q : ℚ) (number d : ℤ) (m : ℕ) → number ≡ q.num → nat_abs number ≤ bound_of 127 → d ≡ pos q.den → SFits w128 d → of_z w128 d ≡ 1
    → m ≡ nat_abs (bits_of number) → m ≤ longest_whole
    → (nat_abs (to_z w64 (of_z w64 (bits_of number))) ≤ longest_whole) × (whole (to_z w64 (of_z w64 (bits_of number))) ≡ q)
counted_is q number d m is small den fits one size h =
    let plainly : bits_of number ≡ number = plain number small in
    let few : nat_abs (bits_of number) ≤ longest_whole = subst (λ (k : ℕ). k ≤ longest_whole) size h in
    let same : to_z w64 (of_z w64 (bits_of number)) ≡ bits_of number = plain_64 (bits_of number) (omega (arith, few)) in
    let den_is : q.den ≡ 1 = natural (sym den ∙ sym (to_z-of_z fits) ∙ ap (to_z w128) one ∙ cast_plain 1 (omega arith)) in
    (subst (λ (z : ℤ). nat_abs z ≤ longest_whole) (sym same) few, ap whole (same ∙ plainly ∙ is) ∙ whole_of q den_is)
  where
    natural : {m n : ℕ} → pos m ≡ pos n → m ≡ n
    natural e = cc

-- A number converted to more bits.
pub widened : (n : ℤ) → SFits w64 n → nat_abs n ≤ longest_whole → bits_of (to_z w64 (of_z w64 n)) ≡ n
widened n fits h = ap bits_of (to_z-of_z fits) ∙ plain n (omega (arith, h))

-- A fraction made of a whole number.
over_one : (n : ℤ) → whole n /ℚ whole (pos 1) ≡ whole n
over_one n = sym (/ℚ-unique (whole n) (whole (pos 1)) (whole n) (whole_apart (pos 1) one_some) (sym (whole-times n (pos 1)) ∙ ap whole (times_one n)))
  where
    one_some : pos 1 ≡ pos 0 → ⊥
    one_some e = cc

pub made_is : (o : Option ℚ) (number n d : ℤ) → nat_abs number ≤ longest_whole → n ≡ number → d ≡ pos 1
    → SomeIff o (IsMade (bound_of 127) n d) (whole n /ℚ whole d) → o ≡ Some (whole number)
made_is (Some x) number n d h e f made = ap (λ (q : ℚ). Some q) (made.1 ∙ ap₂ (λ (a b : ℤ). whole a /ℚ whole b) e f ∙ over_one number)
made_is None number n d h e f made = absurd (made (record {
  some = λ z. apart (sym f ∙ z);
  fits = subst (λ (q : ℚ). IsWithin (bound_of 127) q) (sym (ap₂ (λ (a b : ℤ). whole a /ℚ whole b) e f ∙ over_one number)) (record {
    small = subst (λ (z : ℤ). nat_abs z ≤ bound_of 127) (sym (num-whole number)) (omega arith);
    small_den = subst (λ (k : ℕ). k ≤ bound_of 127) (sym (den_whole number)) (omega arith);
  });
}))
  where
    apart : pos 1 ≡ pos 0 → ⊥
    apart e = cc

-- ---- forms
pub whole_exact : (forward : Bool) (x y : ℚ) (a b n : ℤ) → nat_abs a ≤ longest_whole → nat_abs b ≤ longest_whole → x ≡ whole a → y ≡ whole b
    → n ≡ along_by forward a b → IsExactStep forward x y (whole n)
whole_exact true x y a b n h k e f g = sum_exact a b n h k g ∙ ap₂ (λ (p q : ℚ). checked passes_Q (op_of true) p q) (sym e) (sym f)
whole_exact false x y a b n h k e f g = difference_exact a b n h k g ∙ ap₂ (λ (p q : ℚ). checked passes_Q (op_of false) p q) (sym e) (sym f)

-- The whole number that a step gives, if it is small enough.
pub whole_given : (forward : Bool) (x y : ℚ) (a b : ℤ) → nat_abs a ≤ longest_whole → nat_abs b ≤ longest_whole → whole a ≡ x → whole b ≡ y → (o : Option ℤ)
    → SomeIff o (nat_abs (along_by forward (to_z w64 (of_z w64 a)) (to_z w64 (of_z w64 b))) ≤ longest_whole) (along_by forward (to_z w64 (of_z w64 a)) (to_z w64 (of_z w64 b)))
    → IfSome o (λ n. (nat_abs n ≤ longest_whole) × IsExactStep forward x y (whole n))
whole_given forward x y a b h k e f None g = tt
whole_given forward x y a b h k e f (Some n) g = (
  subst (λ (z : ℤ). nat_abs z ≤ longest_whole) (sym g.1) g.0,
  whole_exact forward x y a b n h k (sym e) (sym f) (g.1 ∙ ap₂ (along_by forward) (plain_64 a (omega (arith, h))) (plain_64 b (omega (arith, k)))),
)

-- The same number, as it is handed over.
pub kept_exact : (forward : Bool) (x y : ℚ) (n : ℤ) → (nat_abs n ≤ longest_whole) × IsExactStep forward x y (whole n)
    → Ok (whole (to_z w64 (of_z w64 n))) ≡ checked_at passes_Q Part.Quick (op_of forward) x y
kept_exact forward x y n h = let small : nat_abs n ≤ longest_whole = h.0 in ap (at_part Part.Quick) (ap (λ (z : ℤ). Ok (whole z)) (plain_64 n (omega (arith, small))) ∙ h.1)

pub order_kept : (n right : ℤ) (y other : ℚ) → nat_abs n ≤ longest_whole → whole right ≡ y → y ≡ other → int_cmp (to_z w64 (of_z w64 n)) right ≡ cmp_ℚ (whole n) other
order_kept n right y other h e f = order_is (to_z w64 (of_z w64 n)) right ∙ ap₂ (λ (z : ℤ) (q : ℚ). cmp_ℚ (whole z) q) (plain_64 n (omega (arith, h))) (e ∙ f)

pub order_handed : (n : ℤ) (x y : ℚ) → nat_abs n ≤ longest_whole → x ≡ y → cmp_ℚ (whole (to_z w64 (of_z w64 n))) x ≡ cmp_ℚ (whole n) y
order_handed n x y h e = ap₂ (λ (z : ℤ) (q : ℚ). cmp_ℚ (whole z) q) (plain_64 n (omega (arith, h))) e

pub counted_fits : (number : ℤ) (m : ℕ) → m ≡ nat_abs (bits_of number) → m ≤ longest_whole → SFits w64 (bits_of number)
counted_fits number m e h = fits_64 (bits_of number) (omega (arith, e, h))

pub kept_small : (n z : ℤ) → n ≡ z → nat_abs z ≤ longest_whole → nat_abs (to_z w64 (of_z w64 n)) ≤ longest_whole
kept_small n z e h =
    let few : nat_abs n ≤ longest_whole = subst (λ (y : ℤ). nat_abs y ≤ longest_whole) (sym e) h in
    subst (λ (y : ℤ). nat_abs y ≤ longest_whole) (sym (plain_64 n (omega (arith, few)))) few

-- ---- a sum or a difference of 64 bits, of which the magnitude m was read
module _ (op : ℤ → ℤ → ℤ) (a b : ℤ) (f : SFits w64 a) (g : SFits w64 b) where
  abbrev cast : ℤ
  cast = op (to_z w64 (of_z w64 a)) (to_z w64 (of_z w64 b))

  cast_is : cast ≡ op a b
  cast_is = ap₂ op (to_z-of_z f) (to_z-of_z g)

  pub result_fits : nat_abs (op a b) ≤ longest_whole → SFits w64 cast
  result_fits h = subst (SFits w64) (sym cast_is) (fits_64 (op a b) (omega (arith, h)))

  module _ (n : ℤ) (m : ℕ) (w : SFits w64 cast × (n ≡ cast)) (e : m ≡ nat_abs (to_z w64 (of_z w64 n))) where
    stored : to_z w64 (of_z w64 n) ≡ op a b
    stored = to_z-of_z (subst (SFits w64) (sym w.1) w.0) ∙ w.1 ∙ cast_is

    pub result_small : m ≤ longest_whole → (nat_abs (op a b) ≤ longest_whole) × (to_z w64 (of_z w64 n) ≡ op a b)
    result_small h = (subst (λ (k : ℕ). k ≤ longest_whole) (e ∙ ap nat_abs stored) h, stored)

    pub result_beyond : longest_whole < m → nat_abs (op a b) ≤ longest_whole → ⊥
    result_beyond h k = omega (arith, e ∙ ap nat_abs stored, h, k)
