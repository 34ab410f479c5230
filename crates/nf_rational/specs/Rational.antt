-- The rational numbers. A number is represented by its reduced fraction, so equal numbers are one term.
use Rattle.std.proofs.Common.{◌≡◌, ℕ, zero, suc, ◌*◌, ◌/◌, ◌<◌, refl, sym, ap, subst, arith}
use Prim.Native.Nat.{◌∣◌}
use mathlib.Core.HLevel.{is_prop→PathP}
use native.Mathlib.Bridge.{le_prop}
use native.Mathlib.Nat.{ℕ_set, mul-div_cancel', div-mul_cancel, pos_of_dvd_of_pos, dvd-mul_right}
use lib.IntN.{ℤ, pos, negsuc, neg_ℤ, nat_abs}
use lib.Signed.{quot_z}
use Rattle.std.specs.Int.{IsGcd}
use Rattle.std.specs.Coded.{Coded, coded×, coded_ℕ, coded_ℤ}
use Rattle.nf_rational.specs.Gcd.{gcd, IsGcd-gcd, gcd_of_quotients}

-- a whole numerator over a positive denominator, without common factor
pub record ℚ : Type 0 where
  pub num : ℤ
  pub den : ℕ
  pub positive : 0 < den
  pub reduced : gcd (nat_abs num) den ≡ 1

-- numbers with equal numerators and equal denominators are equal
pub same_parts : (x y : ℚ) → x.num ≡ y.num → x.den ≡ y.den → x ≡ y
same_parts x y p q = λ i. record {
  num = p i;
  den = q i;
  positive = is_prop→PathP (λ j. 0 < q j) (λ j. le_prop) x.positive y.positive i;
  reduced = is_prop→PathP (λ j. gcd (nat_abs (p j)) (q j) ≡ 1) (λ j. ℕ_set (gcd (nat_abs (p j)) (q j)) 1) x.reduced y.reduced i;
}

-- ---- numerator and denominator, divided by their common factor
pub gcd_pos : (a d : ℕ) → 0 < d → 0 < gcd a d
gcd_pos a d some = pos_of_dvd_of_pos (IsGcd-gcd a d).1 some

pub part_pos : (a d : ℕ) → 0 < d → 0 < d / gcd a d
part_pos a d some = pos_of_dvd_of_pos {m = d / gcd a d} {n = d}
    (subst (λ (k : ℕ). d / gcd a d ∣ k) (div-mul_cancel (gcd a d) (IsGcd-gcd a d).1) (dvd-mul_right (d / gcd a d) (gcd a d))) some

abs_neg : (k : ℕ) → nat_abs (neg_ℤ (pos k)) ≡ k
abs_neg zero = refl
abs_neg (suc k) = refl

pub abs_quot : (n : ℤ) (g : ℕ) → nat_abs (quot_z n (pos g)) ≡ nat_abs n / g
abs_quot (pos a) g = refl
abs_quot (negsuc a) g = abs_neg (suc a / g)

pub parts_reduced : (a d : ℕ) → 0 < d → gcd (a / gcd a d) (d / gcd a d) ≡ 1
parts_reduced a d some =
    gcd_of_quotients (gcd a d) (a / gcd a d) (d / gcd a d) (gcd_pos a d some)
    (subst (λ (m : ℕ). IsGcd m (gcd a d * (d / gcd a d)) (gcd a d)) (sym (mul-div_cancel' (gcd a d) (IsGcd-gcd a d).0))
    (subst (λ (m : ℕ). IsGcd a m (gcd a d)) (sym (mul-div_cancel' (gcd a d) (IsGcd-gcd a d).1)) (IsGcd-gcd a d)))

pub ratio_reduced : (n : ℤ) (d : ℕ) → 0 < d → gcd (nat_abs (quot_z n (pos (gcd (nat_abs n) d)))) (d / gcd (nat_abs n) d) ≡ 1
ratio_reduced n d some = subst (λ (m : ℕ). gcd m (d / gcd (nat_abs n) d) ≡ 1) (sym (abs_quot n (gcd (nat_abs n) d)))
    (parts_reduced (nat_abs n) d some)

pub suc_pos : (e : ℕ) → 0 < suc e
suc_pos e = omega arith

pub one_reduced : gcd 0 1 ≡ 1
unfolding gcd
one_reduced = refl

-- n over d, reduced, or 0 if d is 0
unfoldable pub ratio : ℤ → ℕ → ℚ
ratio n zero = record { num = pos 0; den = 1; positive = suc_pos 0; reduced = one_reduced }
ratio n (suc e) = record {
  num = quot_z n (pos (gcd (nat_abs n) (suc e)));
  den = suc e / gcd (nat_abs n) (suc e);
  positive = part_pos (nat_abs n) (suc e) (suc_pos e);
  reduced = ratio_reduced n (suc e) (suc_pos e);
}

-- ---- numerator and denominator determine a rational number
pub same_pairs : (x y : ℚ) → (coded× coded_ℤ coded_ℕ).code (x.num, x.den) ≡ (coded× coded_ℤ coded_ℕ).code (y.num, y.den) → x ≡ y
same_pairs x y e = let p : ◌≡◌ {A = ℤ × ℕ} (x.num, x.den) (y.num, y.den) = (coded× coded_ℤ coded_ℕ).inj (x.num, x.den) (y.num, y.den) e in
    same_parts x y (ap (λ (t : ℤ × ℕ). t.0) p) (ap (λ (t : ℤ × ℕ). t.1) p)

abbrev pub coded_ℚ : Coded ℚ
coded_ℚ = record { code = λ q. (coded× coded_ℤ coded_ℕ).code (q.num, q.den); inj = same_pairs }
