-- The computed product of small numbers, if it is small too.
use Rattle.std.proofs.Common.{◌≡◌, ℕ, ◌/◌, ◌≤◌, ℤ, pos, nat_abs, sym, ap, ◌∙◌}
use Rattle.nf_frac.proofs.Common.{gcd, ℚ, quot_one, over_one, short}
use mathlib.Core.Path.{ap₂}
use lib.Signed.{quot_z}
use Rattle.nf_frac.proofs.SmallParts.{bits_64, plain_64, gcd_one}
use Rattle.nf_frac.proofs.SmallSums.{part_plain}

-- the numerator n of x, reduced
pub left_num : (x y : ℚ) (n p : ℤ) (g : ℕ) → n ≡ x.num → nat_abs n ≤ short → g ≡ gcd (nat_abs x.num) y.den → p ≡ quot_z (bits_64 n) (pos g)
    → bits_64 p ≡ quot_z x.num (pos (gcd (nat_abs x.num) y.den))
left_num x y n p g xn small common part =
    part_plain p n g part small ∙ ap₂ (λ (z : ℤ) (k : ℕ). quot_z z (pos k)) (plain_64 n small ∙ xn) common

-- the denominator d of x, reduced
pub left_den : (x y : ℚ) (d g u : ℕ) → d ≡ x.den → g ≡ gcd (nat_abs y.num) x.den → u ≡ d / g → u ≡ x.den / gcd (nat_abs y.num) x.den
left_den x y d g u xd common part = part ∙ ap₂ (λ (a b : ℕ). a / b) xd common

-- ---- two whole numbers
pub whole_num : (x y : ℚ) (n : ℤ) → n ≡ x.num → nat_abs n ≤ short → y.den ≡ 1 → bits_64 n ≡ quot_z x.num (pos (gcd (nat_abs x.num) y.den))
whole_num x y n xn small one =
    left_num x y n n 1 xn small (gcd_one (nat_abs x.num) y.den one) (sym (quot_one n) ∙ ap (λ (z : ℤ). quot_z z (pos 1)) (sym (plain_64 n small)))

pub whole_den : (x y : ℚ) → x.den ≡ 1 → 1 ≡ x.den / gcd (nat_abs y.num) x.den
whole_den x y one = left_den x y 1 1 1 (sym one) (gcd_one (nat_abs y.num) x.den one) (sym (over_one 1))
