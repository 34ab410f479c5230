-- Ratios whose common factor is taken out, and sums over the least common denominator.
use Rattle.std.proofs.Common.{◌≡◌, ℕ, ◌*◌, ◌/◌, ◌<◌, ◌≤◌, sym, ap, [], ◌∷◌}
use Rattle.nf_rational_laws.proofs.Common.{◌+ℚ◌, gcd, IsGcd-gcd, ℚ, ratio, part_pos}
use lib.IntN.{ℤ, pos, ◌+ℤ◌, ◌*ℤ◌, neg_ℤ}
use native.Mathlib.Nat.{le_of_dvd, mul-pos, div-mul_cancel}
use Rattle.nf_rational_laws.proofs.Polynomial.{combine, using, done, reading}
use Rattle.nf_rational_laws.proofs.IntegerRing.{ints_ring}
use Rattle.nf_rational_laws.proofs.Ratio.{Is-self, Is-same, Is-plus, Is-ratio}

pub gcd-le : (a d : ℕ) → 0 < d → gcd a d ≤ d
gcd-le a d some = le_of_dvd some (IsGcd-gcd a d).1

-- ---- the sum over the least common denominator
lcm_by : (xn xd yn yd g l r : ℤ) → r *ℤ g ≡ xd → l *ℤ g ≡ yd → (xn *ℤ yd +ℤ yn *ℤ xd) *ℤ (xd *ℤ l) ≡ (xn *ℤ l +ℤ yn *ℤ r) *ℤ (xd *ℤ yd)
lcm_by xn xd yn yd g l r p q = combine ints_ring (xn ∷ xd ∷ yn ∷ yd ∷ g ∷ l ∷ r ∷ [])
    (using (yn *ℤ xd *ℤ r) q (search reading depth 30) (using (neg_ℤ (yn *ℤ xd *ℤ l)) p (search reading depth 30) done)) (search reading depth 30) tt

pub plus_over_lcm : (x y : ℚ) → ratio (x.num *ℤ pos (y.den / gcd x.den y.den) +ℤ y.num *ℤ pos (x.den / gcd x.den y.den)) (x.den * (y.den / gcd x.den y.den)) ≡ x +ℚ y
plus_over_lcm x y =
    Is-same _ _ _ _
    (Is-ratio (x.num *ℤ pos (y.den / gcd x.den y.den) +ℤ y.num *ℤ pos (x.den / gcd x.den y.den)) (x.den * (y.den / gcd x.den y.den))
    (mul-pos x.positive (part_pos x.den y.den y.positive)))
    (Is-plus _ _ _ _ (Is-self x) (Is-self y))
    (sym (lcm_by x.num (pos x.den) y.num (pos y.den) (pos (gcd x.den y.den)) (pos (y.den / gcd x.den y.den)) (pos (x.den / gcd x.den y.den))
    (ap pos (div-mul_cancel (gcd x.den y.den) (IsGcd-gcd x.den y.den).0))
    (ap pos (div-mul_cancel (gcd x.den y.den) (IsGcd-gcd x.den y.den).1))))
