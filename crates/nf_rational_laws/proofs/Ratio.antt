-- Numerators and denominators of rationals: ratios by cross products, and `Is x n d`, "x is n over d, reduced or not".
use Rattle.std.proofs.Common.{◌≡◌, ℕ, zero, suc, ◌*◌, ◌/◌, ◌<◌, [], ◌∷◌, refl, sym, ◌∙◌, ap, subst, arith}
use Rattle.nf_rational_laws.proofs.Common.{IsGcd, IsGcd-swap, gcd, IsGcd-gcd, IsGcd-scaled, ℚ, same_parts}
use Prim.Native.Nat.{◌∣◌}
use native.Mathlib.Nat.{div-mul_cancel, mul_comm, dvd_antisymm, dvd-mul_left, mul-pos, mul-one}
use lib.IntN.{ℤ, pos, negsuc, ◌+ℤ◌, ◌*ℤ◌, neg_ℤ, nat_abs}
use lib.Signed.{quot_z, ◌<ℤ◌}
use Rattle.nf_rational.specs.Rational.{ratio}
use Rattle.nf_rational.specs.Operations.{whole, ◌+ℚ◌, ◌-ℚ◌, ◌*ℚ◌, neg_ℚ}
use Rattle.nf_rational_laws.proofs.Ints.{cancel, abs-mul, neg-times, cancel_ℤ, pos-times, pos_in}
use Rattle.nf_rational_laws.proofs.Polynomial.{combine, using, done, reading}
use Rattle.nf_rational_laws.proofs.IntegerRing.{ints_ring}

-- what divides a product and shares no factor with one of its parts divides the other
pub dvd_of_dvd-mul : (a b c : ℕ) → 0 < c → IsGcd a b 1 → a ∣ c * b → a ∣ c
dvd_of_dvd-mul a b c some h d =
    subst (λ (m : ℕ). a ∣ m) (mul-one c) ((IsGcd-scaled c a b 1 some h).2 a (dvd-mul_left a c) d)

pub quot_times : (n : ℤ) (g : ℕ) → g ∣ nat_abs n → quot_z n (pos g) *ℤ pos g ≡ n
quot_times (pos a) g h = ap pos (div-mul_cancel g h)
quot_times (negsuc a) g h = neg-times (suc a / g) g ∙ ap (λ (m : ℕ). neg_ℤ (pos m)) (div-mul_cancel g h)

-- what the ratio is, by a product crosswise
crossed : (q n f d g : ℤ) → q *ℤ g ≡ n → f *ℤ g ≡ d → q *ℤ d ≡ n *ℤ f
crossed q n f d g e h = combine ints_ring (q ∷ n ∷ f ∷ d ∷ g ∷ [])
    (using f e (search reading depth 30) (using (neg_ℤ q) h (search reading depth 30) done)) (search reading depth 30) tt

pub ratio_cross : (n : ℤ) (d : ℕ) → 0 < d → (ratio n d).num *ℤ pos d ≡ n *ℤ pos (ratio n d).den
unfolding ratio
ratio_cross n zero some = absurd (omega arith)
ratio_cross n (suc e) some =
    crossed (quot_z n (pos (gcd (nat_abs n) (suc e)))) n (pos (suc e / gcd (nat_abs n) (suc e))) (pos (suc e)) (pos (gcd (nat_abs n) (suc e)))
    (quot_times n (gcd (nat_abs n) (suc e)) (IsGcd-gcd (nat_abs n) (suc e)).0)
    (ap pos (div-mul_cancel (gcd (nat_abs n) (suc e)) (IsGcd-gcd (nat_abs n) (suc e)).1))

-- ---- equal by products crosswise
one_way : (x y : ℚ) → nat_abs x.num * y.den ≡ nat_abs y.num * x.den → x.den ∣ y.den
one_way x y e =
    dvd_of_dvd-mul x.den (nat_abs x.num) y.den y.positive
    (IsGcd-swap (nat_abs x.num) x.den 1 (subst (λ (m : ℕ). IsGcd (nat_abs x.num) x.den m) x.reduced (IsGcd-gcd (nat_abs x.num) x.den)))
    (subst (λ (m : ℕ). x.den ∣ m) (sym e ∙ mul_comm (nat_abs x.num) y.den) (dvd-mul_left x.den (nat_abs y.num)))

pub same_cross : (x y : ℚ) → x.num *ℤ pos y.den ≡ y.num *ℤ pos x.den → x ≡ y
same_cross x y e =
    let a : nat_abs x.num * y.den ≡ nat_abs y.num * x.den = sym (abs-mul x.num y.den) ∙ ap nat_abs e ∙ abs-mul y.num x.den in
    let d : x.den ≡ y.den = dvd_antisymm (one_way x y a) (one_way y x (sym a)) in
    same_parts x y (cancel x.num y.num y.den y.positive (e ∙ ap (λ (m : ℕ). y.num *ℤ pos m) d)) d

-- ---- x is n over d, in lowest terms or not
pub record Is (x : ℚ) (n d : ℤ) : Type 0 where
  pub some : pos 0 <ℤ d
  pub cross : x.num *ℤ d ≡ n *ℤ pos x.den

pub Is-self : (x : ℚ) → Is x x.num (pos x.den)
Is-self x = record { some = pos_in x.den x.positive; cross = refl }

pub Is-ratio : (n : ℤ) (d : ℕ) → 0 < d → Is (ratio n d) n (pos d)
Is-ratio n d h = record { some = pos_in d h; cross = ratio_cross n d h }

same_by : (xn xd yn yd n d m e : ℤ) → xn *ℤ d ≡ n *ℤ xd → yn *ℤ e ≡ m *ℤ yd → n *ℤ e ≡ m *ℤ d → xn *ℤ yd *ℤ (d *ℤ e) ≡ yn *ℤ xd *ℤ (d *ℤ e)
same_by xn xd yn yd n d m e p q r = combine ints_ring (xn ∷ xd ∷ yn ∷ yd ∷ n ∷ d ∷ m ∷ e ∷ [])
    (using (yd *ℤ e) p (search reading depth 30) (using (yd *ℤ xd) r (search reading depth 30) (using (neg_ℤ (xd *ℤ d)) q (search reading depth 30) done))) (search reading depth 30) tt

pub Is-same : {x y : ℚ} (n d m e : ℤ) → Is x n d → Is y m e → n *ℤ e ≡ m *ℤ d → x ≡ y
Is-same {x} {y} n d m e p q r =
    same_cross x y (cancel_ℤ (x.num *ℤ pos y.den) (y.num *ℤ pos x.den) (d *ℤ e) (pos-times d e p.some q.some)
    (same_by x.num (pos x.den) y.num (pos y.den) n d m e p.cross q.cross r))

sum_by : (sn sd xn xd yn yd n d m e : ℤ) → sn *ℤ (xd *ℤ yd) ≡ (xn *ℤ yd +ℤ yn *ℤ xd) *ℤ sd → xn *ℤ d ≡ n *ℤ xd → yn *ℤ e ≡ m *ℤ yd
    → sn *ℤ (d *ℤ e) *ℤ (xd *ℤ yd) ≡ (n *ℤ e +ℤ m *ℤ d) *ℤ sd *ℤ (xd *ℤ yd)
sum_by sn sd xn xd yn yd n d m e s p q = combine ints_ring (sn ∷ sd ∷ xn ∷ xd ∷ yn ∷ yd ∷ n ∷ d ∷ m ∷ e ∷ [])
    (using (d *ℤ e) s (search reading depth 30) (using (yd *ℤ e *ℤ sd) p (search reading depth 30) (using (xd *ℤ d *ℤ sd) q (search reading depth 30) done))) (search reading depth 30) tt

pub Is-plus : {x y : ℚ} (n d m e : ℤ) → Is x n d → Is y m e → Is (x +ℚ y) (n *ℤ e +ℤ m *ℤ d) (d *ℤ e)
unfolding ◌+ℚ◌
Is-plus {x} {y} n d m e p q =
    let z : ℚ = ratio (x.num *ℤ pos y.den +ℤ y.num *ℤ pos x.den) (x.den * y.den) in
    record {
      some = pos-times d e p.some q.some;
      cross = cancel_ℤ _ _ (pos x.den *ℤ pos y.den) (pos_in (x.den * y.den) (mul-pos x.positive y.positive))
          (sum_by z.num (pos z.den) x.num (pos x.den) y.num (pos y.den) n d m e
          (ratio_cross (x.num *ℤ pos y.den +ℤ y.num *ℤ pos x.den) (x.den * y.den) (mul-pos x.positive y.positive)) p.cross q.cross);
    }

product_by : (sn sd xn xd yn yd n d m e : ℤ) → sn *ℤ (xd *ℤ yd) ≡ (xn *ℤ yn) *ℤ sd → xn *ℤ d ≡ n *ℤ xd → yn *ℤ e ≡ m *ℤ yd
    → sn *ℤ (d *ℤ e) *ℤ (xd *ℤ yd) ≡ (n *ℤ m) *ℤ sd *ℤ (xd *ℤ yd)
product_by sn sd xn xd yn yd n d m e s p q = combine ints_ring (sn ∷ sd ∷ xn ∷ xd ∷ yn ∷ yd ∷ n ∷ d ∷ m ∷ e ∷ [])
    (using (d *ℤ e) s (search reading depth 30) (using (yn *ℤ e *ℤ sd) p (search reading depth 30) (using (n *ℤ xd *ℤ sd) q (search reading depth 30) done))) (search reading depth 30) tt

pub Is-times : {x y : ℚ} (n d m e : ℤ) → Is x n d → Is y m e → Is (x *ℚ y) (n *ℤ m) (d *ℤ e)
unfolding ◌*ℚ◌
Is-times {x} {y} n d m e p q =
    let z : ℚ = ratio (x.num *ℤ y.num) (x.den * y.den) in
    record {
      some = pos-times d e p.some q.some;
      cross = cancel_ℤ _ _ (pos x.den *ℤ pos y.den) (pos_in (x.den * y.den) (mul-pos x.positive y.positive))
          (product_by z.num (pos z.den) x.num (pos x.den) y.num (pos y.den) n d m e
          (ratio_cross (x.num *ℤ y.num) (x.den * y.den) (mul-pos x.positive y.positive)) p.cross q.cross);
    }

minus_by : (sn sd xn xd n d : ℤ) → sn *ℤ xd ≡ neg_ℤ xn *ℤ sd → xn *ℤ d ≡ n *ℤ xd → sn *ℤ d *ℤ xd ≡ neg_ℤ n *ℤ sd *ℤ xd
minus_by sn sd xn xd n d s p = combine ints_ring (sn ∷ sd ∷ xn ∷ xd ∷ n ∷ d ∷ [])
    (using d s (search reading depth 30) (using (neg_ℤ sd) p (search reading depth 30) done)) (search reading depth 30) tt

pub Is-minus : {x : ℚ} (n d : ℤ) → Is x n d → Is (neg_ℚ x) (neg_ℤ n) d
unfolding neg_ℚ
Is-minus {x} n d p =
    let z : ℚ = ratio (neg_ℤ x.num) x.den in
    record {
      some = p.some;
      cross = cancel_ℤ _ _ (pos x.den) (pos_in x.den x.positive)
          (minus_by z.num (pos z.den) x.num (pos x.den) n d (ratio_cross (neg_ℤ x.num) x.den x.positive) p.cross);
    }

pub Is-less : {x y : ℚ} (n d m e : ℤ) → Is x n d → Is y m e → Is (x -ℚ y) (n *ℤ e +ℤ neg_ℤ m *ℤ d) (d *ℤ e)
unfolding ◌-ℚ◌
Is-less n d m e p q = Is-plus n d (neg_ℤ m) e p (Is-minus m e q)

pub Is-whole : (z : ℤ) → Is (whole z) z (pos 1)
unfolding whole
Is-whole z = Is-ratio z 1 (omega arith)
