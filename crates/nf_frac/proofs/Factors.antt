-- A sum over the least common denominator can only be reduced by factors of the greatest common divisor of the two denominators.
use Rattle.std.proofs.Common.{◌≡◌, ℕ, suc, ◌+◌, ◌-◌, ◌*◌, ◌/◌, ℤ, pos, negsuc, ◌+ℤ◌, ◌*ℤ◌, neg_ℤ, nat_abs, sym, ◌∙◌, ap, subst, arith}
use Rattle.nf_frac.proofs.Common.{IsGcd, IsGcd-swap, same_from_IsGcd, gcd, IsGcd-gcd, ℚ, parts_reduced, abs-mul, abs-neg, apart_parts, divides}
use Rattle.nf_frac.proofs.Common.{lowest_parts, split_dvd}
use Prim.Native.Nat.{◌∣◌}
use lib.IntN.{+ℤ_comm}
use native.Mathlib.Nat.{dvd_trans, dvd-mul_right, dvd-mul_left, one-dvd, dvd-add, dvd-sub, div-mul_cancel, mul_comm}
use borrow.Author.Differences.{ints}

itself : (a : ℕ) → a ∣ a
itself a = subst (λ (m : ℕ). a ∣ m) (one_times a) (dvd-mul_right a 1)
  where
    one_times : (a : ℕ) → a * 1 ≡ a
    one_times a = omega arith

-- a divisor of two whole numbers divides their sum
apart_is : (a b : ℕ) → nat_abs (pos a +ℤ negsuc b) ≡ (a - suc b) + (suc b - a)
apart_is a b = grind (arith, ints)

dvd-plus : (a b : ℤ) (f : ℕ) → f ∣ nat_abs a → f ∣ nat_abs b → f ∣ nat_abs (a +ℤ b)
dvd-plus (pos a) (pos b) f h k = dvd-add f h k
dvd-plus (pos a) (negsuc b) f h k = subst (λ (m : ℕ). f ∣ m) (sym (apart_is a b)) (dvd-add f (dvd-sub f h k) (dvd-sub f k h))
dvd-plus (negsuc a) (pos b) f h k = subst (λ (m : ℕ). f ∣ m) (sym (ap nat_abs (+ℤ_comm (negsuc a) (pos b)) ∙ apart_is b a)) (dvd-add f (dvd-sub f k h) (dvd-sub f h k))
dvd-plus (negsuc a) (negsuc b) f h k = subst (λ (m : ℕ). f ∣ m) (both a b) (dvd-add f h k)
  where
    both : (a b : ℕ) → suc a + suc b ≡ nat_abs (negsuc a +ℤ negsuc b)
    both a b = grind (arith, ints)

dvd_rest : (a b : ℤ) (f : ℕ) → f ∣ nat_abs (a +ℤ b) → f ∣ nat_abs a → f ∣ nat_abs b
dvd_rest a b f h k = subst (λ (z : ℤ). f ∣ nat_abs z) (back a b) (dvd-plus (a +ℤ b) (neg_ℤ a) f h (subst (λ (m : ℕ). f ∣ m) (sym (abs-neg a)) k))
  where
    back : (a b : ℤ) → (a +ℤ b) +ℤ neg_ℤ a ≡ b
    back a b = omega (arith, ints)

-- a factor e of the sum n l + m r has no common factor with l
coprime_with : (n m : ℤ) (l r k e : ℕ) → IsGcd r l 1 → IsGcd (nat_abs m) k 1 → l ∣ k → e ∣ nat_abs (n *ℤ pos l +ℤ m *ℤ pos r) → IsGcd e l 1
coprime_with n m l r k e apart lowest h d = (one-dvd e, one-dvd l, λ f p q. lowest.2 f (in_num f p q) (dvd_trans f q h))
  where
    in_num : (f : ℕ) → f ∣ e → f ∣ l → f ∣ nat_abs m
    in_num f p q =
        let first : f ∣ nat_abs (n *ℤ pos l) = subst (λ (j : ℕ). f ∣ j) (sym (abs-mul n l)) (dvd_trans f q (dvd-mul_left l (nat_abs n))) in
        let second : f ∣ nat_abs (m *ℤ pos r) = dvd_rest (n *ℤ pos l) (m *ℤ pos r) f (dvd_trans f p d) first in
        split_dvd f r (nat_abs m) (IsGcd-swap r f 1 (apart_parts r l r f apart (itself r) q)) (subst (λ (j : ℕ). f ∣ j) (abs-mul m r) second)

abbrev pub left_over : ℚ → ℚ → ℕ
left_over x y = y.den / gcd x.den y.den

abbrev pub right_over : ℚ → ℚ → ℕ
right_over x y = x.den / gcd x.den y.den

abbrev pub sum_over : ℚ → ℚ → ℤ
sum_over x y = x.num *ℤ pos (left_over x y) +ℤ y.num *ℤ pos (right_over x y)

apart_factors : (x y : ℚ) → IsGcd (right_over x y) (left_over x y) 1
apart_factors x y = subst (λ (m : ℕ). IsGcd (right_over x y) (left_over x y) m) (parts_reduced x.den y.den y.positive) (IsGcd-gcd (right_over x y) (left_over x y))

in_common : (x y : ℚ) (e : ℕ) → e ∣ nat_abs (sum_over x y) → e ∣ x.den * left_over x y → e ∣ gcd x.den y.den
in_common x y e u v =
    let l = left_over x y in
    let r = right_over x y in
    let common = IsGcd-gcd x.den y.den in
    let with_l : IsGcd e l 1 = coprime_with x.num y.num l r y.den e (apart_factors x y) (lowest_parts y) (divides (gcd x.den y.den) y.den common.1) u in
    let with_r : IsGcd e r 1 = coprime_with y.num x.num r l x.den e (IsGcd-swap r l 1 (apart_factors x y)) (lowest_parts x) (divides (gcd x.den y.den) x.den common.0)
    (subst (λ (z : ℤ). e ∣ nat_abs z) (+ℤ_comm (x.num *ℤ pos l) (y.num *ℤ pos r)) u) in
    let w : e ∣ x.den = split_dvd e l x.den with_l v in
    split_dvd e r (gcd x.den y.den) with_r (subst (λ (m : ℕ). e ∣ m) (sym (div-mul_cancel (gcd x.den y.den) common.0) ∙ mul_comm r (gcd x.den y.den)) w)

pub factors_of_sum : (x y : ℚ) → gcd (nat_abs (sum_over x y)) (gcd x.den y.den) ≡ gcd (nat_abs (sum_over x y)) (x.den * left_over x y)
factors_of_sum x y =
    let t = nat_abs (sum_over x y) in
    let found = IsGcd-gcd t (gcd x.den y.den) in
    same_from_IsGcd t (x.den * left_over x y) _ _ (
      found.0,
      dvd_trans (gcd t (gcd x.den y.den)) found.1 (dvd_trans (gcd x.den y.den) (IsGcd-gcd x.den y.den).0 (dvd-mul_right x.den (left_over x y))),
      λ e u v. found.2 e u (in_common x y e u v),
    )
    (IsGcd-gcd t (x.den * left_over x y))
