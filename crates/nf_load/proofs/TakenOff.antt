-- What was added can be taken off again: if a sum does not pass, the difference of it and its first part does not either.
use Rattle.std.proofs.Common.{◌≡◌, ℕ, zero, suc, ◌*◌, ◌/◌, ◌<◌, ◌≤◌, [], ◌∷◌, ℤ, pos, ◌+ℤ◌, ◌*ℤ◌, neg_ℤ, nat_abs, sym, ap, subst, ◌∙◌, arith}
use Rattle.nf_load.proofs.Common.{ℚ, gcd_pos, part_pos, parts_reduced, ◌+ℚ◌, neg_ℚ, combine, using, done, reading, ints_ring, abs-mul, cancel, abs-neg}
use Rattle.nf_load.proofs.Common.{SumFits}
use mathlib.Core.Path.{ap₂}
use Prim.Native.Nat.{◌∣◌}
use native.Mathlib.Nat.{div-mul_cancel, dvd-mul_right, mul-pos, pos_of_dvd_of_pos}
use Rattle.std.specs.Int.{IsGcd}
use Rattle.std.proofs.lemmas.Nat.{mul-le}
use Rattle.std.proofs.lemmas.Nat.Gcd.{IsGcd-swap}
use Rattle.nf_rational.specs.Gcd.{gcd, IsGcd-gcd}
use Rattle.nf_rational.specs.Rational.{ratio}
use Rattle.nf_rational_laws.proofs.Lowest.{plus_over_lcm}
use Rattle.nf_rational_laws.proofs.Products.{split_dvd}
use Rattle.nf_rational_laws.proofs.Ratio.{quot_times}
use Rattle.nf_frac.proofs.Factors.{left_over, right_over, sum_over}
use Rattle.nf_frac.proofs.Turned.{num-neg, den-neg}

-- ---- whole numbers
crossed : (d e r l g a b : ℤ) → r *ℤ g ≡ d → l *ℤ g ≡ e → d *ℤ a ≡ e *ℤ b → (a *ℤ r) *ℤ g ≡ (l *ℤ b) *ℤ g
crossed d e r l g a b p q s = combine ints_ring (d ∷ e ∷ r ∷ l ∷ g ∷ a ∷ b ∷ [])
    (using a p (search reading depth 30) (using (neg_ℤ b) q (search reading depth 30) (using (pos 1) s (search reading depth 30) done))) (search reading depth 30) tt

other_factor : (r l a b k : ℤ) → a *ℤ r ≡ l *ℤ b → k *ℤ l ≡ a → b *ℤ l ≡ (r *ℤ k) *ℤ l
other_factor r l a b k p q = combine ints_ring (r ∷ l ∷ a ∷ b ∷ k ∷ [])
    (using (neg_ℤ (pos 1)) p (search reading depth 30) (using (neg_ℤ r) q (search reading depth 30) done)) (search reading depth 30) tt

scaled_part : (n l k a : ℤ) → k *ℤ l ≡ a → n *ℤ a ≡ (n *ℤ l) *ℤ k
scaled_part n l k a p = combine ints_ring (n ∷ l ∷ k ∷ a ∷ []) (using (neg_ℤ n) p (search reading depth 30) done) (search reading depth 30) tt

scaled_other : (n r k b : ℤ) → b ≡ r *ℤ k → n *ℤ b ≡ (n *ℤ r) *ℤ k
scaled_other n r k b p = combine ints_ring (n ∷ r ∷ k ∷ b ∷ []) (using n p (search reading depth 30) done) (search reading depth 30) tt

together : (m n l r k a b : ℤ) → k *ℤ l ≡ a → b ≡ r *ℤ k → m *ℤ a +ℤ n *ℤ b ≡ (m *ℤ l +ℤ n *ℤ r) *ℤ k
together m n l r k a b p q = combine ints_ring (m ∷ n ∷ l ∷ r ∷ k ∷ a ∷ b ∷ [])
    (using (neg_ℤ m) p (search reading depth 30) (using n q (search reading depth 30) done)) (search reading depth 30) tt

second_left : (m l n r : ℤ) → (m *ℤ l +ℤ n *ℤ r) +ℤ neg_ℤ m *ℤ l ≡ n *ℤ r
second_left m l n r = combine ints_ring (m ∷ l ∷ n ∷ r ∷ []) done (search reading depth 30) tt

-- a number is at most its multiple
pub times_one : (m : ℕ) → m * 1 ≡ m
times_one m = omega arith

at_most_multiple : (m k limit : ℕ) → 0 < k → m * k ≤ limit → m ≤ limit
at_most_multiple m k limit some h = omega (arith, mul-le m 1 m k (omega arith) some, times_one m, h)

part_at_most : (n : ℤ) (k limit : ℕ) → 0 < k → nat_abs (n *ℤ pos k) ≤ limit → nat_abs n ≤ limit
part_at_most n k limit some h = at_most_multiple (nat_abs n) k limit some (subst (λ (m : ℕ). m ≤ limit) (abs-mul n k) h)

-- ---- a sum over any common denominator
module _ (limit : ℕ) (u v : ℚ) (a b : ℕ) (some : 0 < a) (common : u.den * a ≡ v.den * b) where
  abbrev l : ℕ
  l = left_over u v

  abbrev r : ℕ
  r = right_over u v

  apart : IsGcd l r 1
  apart = IsGcd-swap r l 1 (subst (λ (m : ℕ). IsGcd r l m) (parts_reduced u.den v.den v.positive) (IsGcd-gcd r l))

  same_over : pos a *ℤ pos r ≡ pos l *ℤ pos b
  same_over = cancel (pos a *ℤ pos r) (pos l *ℤ pos b) (gcd u.den v.den) (gcd_pos u.den v.den v.positive)
      (crossed (pos u.den) (pos v.den) (pos r) (pos l) (pos (gcd u.den v.den)) (pos a) (pos b)
      (ap pos (div-mul_cancel (gcd u.den v.den) (IsGcd-gcd u.den v.den).0)) (ap pos (div-mul_cancel (gcd u.den v.den) (IsGcd-gcd u.den v.den).1)) (ap pos common))

  divides : l ∣ a
  divides = split_dvd l r a apart (subst (λ (m : ℕ). l ∣ m) (sym (ap nat_abs same_over)) (dvd-mul_right l b))

  abbrev k : ℕ
  k = a / l

  k_times : k * l ≡ a
  k_times = div-mul_cancel l divides

  k_some : 0 < k
  k_some = pos_of_dvd_of_pos {m = k} {n = a} (subst (λ (m : ℕ). k ∣ m) k_times (dvd-mul_right k l)) some

  l_some : 0 < l
  l_some = pos_of_dvd_of_pos {m = l} {n = a} divides some

  b_is : pos b ≡ pos r *ℤ pos k
  b_is = cancel (pos b) (pos r *ℤ pos k) l l_some (other_factor (pos r) (pos l) (pos a) (pos b) (pos k) same_over (ap pos k_times))

  pub fits_over : u.den * a ≤ limit → nat_abs (u.num *ℤ pos a) ≤ limit → nat_abs (v.num *ℤ pos b) ≤ limit → nat_abs (u.num *ℤ pos a +ℤ v.num *ℤ pos b) ≤ limit → SumFits limit u v
  fits_over den left right total = record {
    denominator = at_most_multiple (u.den * l) k limit k_some (subst (λ (m : ℕ). m ≤ limit) (ap nat_abs (scaled_part (pos u.den) (pos l) (pos k) (pos a) (ap pos k_times))) den);
    left = part_at_most (u.num *ℤ pos l) k limit k_some (subst (λ (z : ℤ). nat_abs z ≤ limit) (scaled_part u.num (pos l) (pos k) (pos a) (ap pos k_times)) left);
    right = part_at_most (v.num *ℤ pos r) k limit k_some (subst (λ (z : ℤ). nat_abs z ≤ limit) (scaled_other v.num (pos r) (pos k) (pos b) b_is) right);
    total = part_at_most (sum_over u v) k limit k_some
        (subst (λ (z : ℤ). nat_abs z ≤ limit) (together u.num v.num (pos l) (pos r) (pos k) (pos a) (pos b) (ap pos k_times) b_is) total);
  }

-- ---- a ratio, and the factor that its parts have in common
record Shortened (q : ℚ) (n : ℤ) (d : ℕ) : Type 0 where
  factor : ℕ
  some : 0 < factor
  num : q.num *ℤ pos factor ≡ n
  den : q.den * factor ≡ d

shortened : (n : ℤ) (d : ℕ) → 0 < d → Shortened (ratio n d) n d
unfolding ratio
shortened n zero h = absurd (omega arith)
shortened n (suc e) h = record {
  factor = gcd (nat_abs n) (suc e);
  some = gcd_pos (nat_abs n) (suc e) h;
  num = quot_times n (gcd (nat_abs n) (suc e)) (IsGcd-gcd (nat_abs n) (suc e)).0;
  den = div-mul_cancel (gcd (nat_abs n) (suc e)) (IsGcd-gcd (nat_abs n) (suc e)).1;
}

-- ---- the sum less its first part
pub taken_off : (limit : ℕ) (x y : ℚ) → SumFits limit x y → SumFits limit (x +ℚ y) (neg_ℚ x)
taken_off limit x y w =
    let over : ℕ = x.den * left_over x y in
    let s : Shortened (x +ℚ y) (sum_over x y) over = subst (λ (q : ℚ). Shortened q (sum_over x y) over) (plus_over_lcm x y)
    (shortened (sum_over x y) over (mul-pos x.positive (part_pos x.den y.den y.positive))) in
    let other : (neg_ℚ x).num *ℤ pos (left_over x y) ≡ neg_ℤ x.num *ℤ pos (left_over x y) = ap (λ (n : ℤ). n *ℤ pos (left_over x y)) (num-neg x) in
    let total : (x +ℚ y).num *ℤ pos s.factor +ℤ (neg_ℚ x).num *ℤ pos (left_over x y) ≡ y.num *ℤ pos (right_over x y) =
    ap₂ (λ (m n : ℤ). m +ℤ n) s.num other ∙ second_left x.num (pos (left_over x y)) y.num (pos (right_over x y)) in
    fits_over limit (x +ℚ y) (neg_ℚ x) s.factor (left_over x y) s.some (s.den ∙ ap (λ (d : ℕ). d * left_over x y) (sym (den-neg x)))
    (subst (λ (m : ℕ). m ≤ limit) (sym s.den) w.denominator)
    (subst (λ (z : ℤ). nat_abs z ≤ limit) (sym s.num) w.total)
    (subst (λ (z : ℤ). nat_abs z ≤ limit) (sym other) (negated x.num (left_over x y) w.left))
    (subst (λ (z : ℤ). nat_abs z ≤ limit) (sym total) w.right)
  where
    negated : (n : ℤ) (f : ℕ) → nat_abs (n *ℤ pos f) ≤ limit → nat_abs (neg_ℤ n *ℤ pos f) ≤ limit
    negated n f h = subst (λ (m : ℕ). m ≤ limit) (abs-mul n f ∙ ap (λ (m : ℕ). m * f) (sym (abs-neg n)) ∙ sym (abs-mul (neg_ℤ n) f)) h
