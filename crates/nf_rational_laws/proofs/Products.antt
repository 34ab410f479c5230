-- The product of two fractions, reduced crosswise before it is formed.
use Rattle.std.proofs.Common.{◌≡◌, ℕ, zero, suc, ◌*◌, ◌/◌, ◌<◌, [], ◌∷◌, refl, sym, ◌∙◌, ap, subst, arith}
use Rattle.nf_rational_laws.proofs.Common.{IsGcd, IsGcd-swap, same_from_IsGcd, gcd, IsGcd-gcd, ℚ, ratio, abs_quot, part_pos, parts_reduced, ◌*ℚ◌, num-ratio}
use Rattle.nf_rational_laws.proofs.Common.{den-ratio}
use Prim.Native.Nat.{◌∣◌}
use native.Mathlib.Nat.{dvd_trans, dvd-mul_right, dvd-zero, one-dvd, div-mul_cancel, mul_comm, mul-pos}
use lib.IntN.{ℤ, pos, negsuc, ◌*ℤ◌, neg_ℤ, nat_abs}
use lib.Signed.{quot_z}
use Rattle.nf_rational_laws.proofs.Ratio.{dvd_of_dvd-mul, quot_times, Is-self, Is-same, Is-times, Is-ratio}
use Rattle.nf_rational_laws.proofs.Polynomial.{combine, using, done, reading}
use Rattle.nf_rational_laws.proofs.IntegerRing.{ints_ring}
use Rattle.nf_rational_laws.proofs.Ints.{abs_neg}

-- ---- numbers with no common factor
pub apart_parts : (n d a c : ℕ) → IsGcd n d 1 → a ∣ n → c ∣ d → IsGcd a c 1
apart_parts n d a c h p q = (one-dvd a, one-dvd c, λ e u v. h.2 e (dvd_trans e u p) (dvd_trans e v q))

pub split_dvd : (a b c : ℕ) → IsGcd a b 1 → a ∣ c * b → a ∣ c
split_dvd a b zero h d = dvd-zero a
split_dvd a b (suc c) h d = dvd_of_dvd-mul a b (suc c) (omega arith) h d

pub apart_product : (a b c : ℕ) → IsGcd a c 1 → IsGcd b c 1 → IsGcd (a * b) c 1
apart_product a b c h k = (
  one-dvd (a * b),
  one-dvd c,
  λ e u v. k.2 e (split_dvd e a b (IsGcd-swap a e 1 (apart_parts a c a e h (self a) v))
      (subst (λ (m : ℕ). e ∣ m) (mul_comm a b) u)) v,
)
  where
    self : (a : ℕ) → a ∣ a
    self a = subst (λ (m : ℕ). a ∣ m) (one_times a) (dvd-mul_right a 1)
      where
        one_times : (a : ℕ) → a * 1 ≡ a
        one_times a = omega arith

pub apart_products : (a b c d : ℕ) → IsGcd a c 1 → IsGcd a d 1 → IsGcd b c 1 → IsGcd b d 1 → IsGcd (a * b) (c * d) 1
apart_products a b c d p q r s =
    IsGcd-swap (c * d) (a * b) 1
    (apart_product c d (a * b) (IsGcd-swap (a * b) c 1 (apart_product a b c p r)) (IsGcd-swap (a * b) d 1 (apart_product a b d q s)))

pub divides : (g n : ℕ) → g ∣ n → n / g ∣ n
divides g n h = subst (λ (m : ℕ). n / g ∣ m) (div-mul_cancel g h) (dvd-mul_right (n / g) g)

pub lowest_parts : (x : ℚ) → IsGcd (nat_abs x.num) x.den 1
lowest_parts x = subst (λ (m : ℕ). IsGcd (nat_abs x.num) x.den m) x.reduced (IsGcd-gcd (nat_abs x.num) x.den)

quotients_apart : (a d : ℕ) → 0 < d → IsGcd (a / gcd a d) (d / gcd a d) 1
quotients_apart a d some = subst (λ (m : ℕ). IsGcd (a / gcd a d) (d / gcd a d) m) (parts_reduced a d some) (IsGcd-gcd (a / gcd a d) (d / gcd a d))

pub abs-product : (a b : ℤ) → nat_abs (a *ℤ b) ≡ nat_abs a * nat_abs b
abs-product (pos a) (pos b) = refl
abs-product (pos a) (negsuc b) = abs_neg (a * suc b)
abs-product (negsuc a) (pos b) = abs_neg (suc a * b)
abs-product (negsuc a) (negsuc b) = refl

-- the parts of the product, each reduced against the other's before they meet
abbrev pub crossed_num : ℚ → ℚ → ℤ
crossed_num x y = quot_z x.num (pos (gcd (nat_abs x.num) y.den)) *ℤ quot_z y.num (pos (gcd (nat_abs y.num) x.den))

abbrev pub crossed_den : ℚ → ℚ → ℕ
crossed_den x y = x.den / gcd (nat_abs y.num) x.den * (y.den / gcd (nat_abs x.num) y.den)

crossed_pos : (x y : ℚ) → 0 < crossed_den x y
crossed_pos x y = mul-pos (part_pos (nat_abs y.num) x.den x.positive) (part_pos (nat_abs x.num) y.den y.positive)

crossed_lowest : (x y : ℚ) → gcd (nat_abs (crossed_num x y)) (crossed_den x y) ≡ 1
crossed_lowest x y =
    let g = gcd (nat_abs x.num) y.den in
    let h = gcd (nat_abs y.num) x.den in
    let e : nat_abs (crossed_num x y) ≡ nat_abs x.num / g * (nat_abs y.num / h) =
    abs-product (quot_z x.num (pos g)) (quot_z y.num (pos h)) ∙ ap (λ (m : ℕ). m * nat_abs (quot_z y.num (pos h))) (abs_quot x.num g)
    ∙ ap (λ (m : ℕ). nat_abs x.num / g * m) (abs_quot y.num h) in
    let apart : IsGcd (nat_abs x.num / g * (nat_abs y.num / h)) (x.den / h * (y.den / g)) 1 =
    apart_products (nat_abs x.num / g) (nat_abs y.num / h) (x.den / h) (y.den / g)
    (apart_parts (nat_abs x.num) x.den _ _ (lowest_parts x) (divides g (nat_abs x.num) (IsGcd-gcd (nat_abs x.num) y.den).0) (divides h x.den (IsGcd-gcd (nat_abs y.num) x.den).1))
    (quotients_apart (nat_abs x.num) y.den y.positive)
    (quotients_apart (nat_abs y.num) x.den x.positive)
    (apart_parts (nat_abs y.num) y.den _ _ (lowest_parts y) (divides h (nat_abs y.num) (IsGcd-gcd (nat_abs y.num) x.den).0) (divides g y.den (IsGcd-gcd (nat_abs x.num) y.den).1)) in
    ap (λ (m : ℕ). gcd m (crossed_den x y)) e ∙ same_from_IsGcd _ _ _ _ (IsGcd-gcd _ _) apart

crossed_by : (q n f e g r m d c h : ℤ) → q *ℤ g ≡ n → r *ℤ h ≡ m → f *ℤ h ≡ e → c *ℤ g ≡ d → q *ℤ r *ℤ (e *ℤ d) ≡ n *ℤ m *ℤ (f *ℤ c)
crossed_by q n f e g r m d c h p s t u = combine ints_ring (q ∷ n ∷ f ∷ e ∷ g ∷ r ∷ m ∷ d ∷ c ∷ h ∷ [])
    (using (neg_ℤ (q *ℤ r *ℤ d)) t (search reading depth 30) (using (neg_ℤ (q *ℤ r *ℤ f *ℤ h)) u (search reading depth 30)
    (using (r *ℤ h *ℤ f *ℤ c) p (search reading depth 30) (using (n *ℤ f *ℤ c) s (search reading depth 30) done)))) (search reading depth 30) tt

pub crossed_ratio : (x y : ℚ) → ratio (crossed_num x y) (crossed_den x y) ≡ x *ℚ y
crossed_ratio x y =
    let g = gcd (nat_abs x.num) y.den in
    let h = gcd (nat_abs y.num) x.den in
    Is-same _ _ _ _ (Is-ratio (crossed_num x y) (crossed_den x y) (crossed_pos x y)) (Is-times _ _ _ _ (Is-self x) (Is-self y))
    (crossed_by (quot_z x.num (pos g)) x.num (pos (x.den / h)) (pos x.den) (pos g) (quot_z y.num (pos h)) y.num (pos y.den) (pos (y.den / g)) (pos h)
    (quot_times x.num g (IsGcd-gcd (nat_abs x.num) y.den).0)
    (quot_times y.num h (IsGcd-gcd (nat_abs y.num) x.den).0)
    (ap pos (div-mul_cancel h (IsGcd-gcd (nat_abs y.num) x.den).1))
    (ap pos (div-mul_cancel g (IsGcd-gcd (nat_abs x.num) y.den).1)))

pub num_times : (x y : ℚ) → (x *ℚ y).num ≡ crossed_num x y
num_times x y = ap (λ (q : ℚ). q.num) (sym (crossed_ratio x y)) ∙ num-ratio (crossed_num x y) (crossed_den x y) (crossed_pos x y) (crossed_lowest x y)

pub den_times : (x y : ℚ) → (x *ℚ y).den ≡ crossed_den x y
den_times x y = ap (λ (q : ℚ). q.den) (sym (crossed_ratio x y)) ∙ den-ratio (crossed_num x y) (crossed_den x y) (crossed_pos x y) (crossed_lowest x y)
