-- A ratio in lowest terms has the parts that it was made of.
use Rattle.std.proofs.Common.{◌≡◌, ℕ, zero, suc, ◌/◌, ◌<◌, ◌∙◌, ap, arith}
use lib.IntN.{ℤ, pos, negsuc, neg_ℤ, nat_abs}
use lib.Signed.{quot_z}
use Rattle.nf_rational.specs.Gcd.{gcd}
use Rattle.nf_rational.specs.Rational.{ℚ, ratio, same_parts}

pub over_one : (k : ℕ) → k / 1 ≡ k
over_one k = omega arith

pub quot_one : (n : ℤ) → quot_z n (pos 1) ≡ n
quot_one (pos a) = ap pos (over_one a)
quot_one (negsuc a) = ap (λ (k : ℕ). neg_ℤ (pos k)) (over_one (suc a))

pub ratio_lowest : (n : ℤ) (d : ℕ) (some : 0 < d) (lowest : gcd (nat_abs n) d ≡ 1) → ratio n d ≡ record { num = n; den = d; positive = some; reduced = lowest }
unfolding ratio
ratio_lowest n zero some lowest = absurd (omega arith)
ratio_lowest n (suc e) some lowest =
    same_parts _ _ (ap (λ (k : ℕ). quot_z n (pos k)) lowest ∙ quot_one n) (ap (λ (k : ℕ). suc e / k) lowest ∙ over_one (suc e))

pub num-ratio : (n : ℤ) (d : ℕ) → 0 < d → gcd (nat_abs n) d ≡ 1 → (ratio n d).num ≡ n
num-ratio n d some lowest = ap (λ (q : ℚ). q.num) (ratio_lowest n d some lowest)

pub den-ratio : (n : ℤ) (d : ℕ) → 0 < d → gcd (nat_abs n) d ≡ 1 → (ratio n d).den ≡ d
den-ratio n d some lowest = ap (λ (q : ℚ). q.den) (ratio_lowest n d some lowest)

pub parts_ratio : (q : ℚ) → ratio q.num q.den ≡ q
parts_ratio q = ratio_lowest q.num q.den q.positive q.reduced
