-- Quotients of rational numbers: b · (a / b) = a, and it is the only such number.
use Rattle.std.proofs.Common.{◌≡◌, ◌≢◌, ℕ, zero, suc, ◌<◌, [], ◌∷◌, refl, sym, ◌∙◌, ap, subst, arith}
use Rattle.nf_rational_laws.proofs.Common.{ℚ, 0ℚ, 1ℚ, ◌*ℚ◌, neg_ℚ, signed_as, ◌<ℚ◌}
use lib.IntN.{ℤ, pos, negsuc, ◌*ℤ◌, neg_ℤ, nat_abs}
use lib.Signed.{◌<ℤ◌}
use Rattle.nf_rational_laws.proofs.Ints.{pos_in}
use Rattle.nf_rational_laws.proofs.Polynomial.{ring, combine, using, done, reading, reading_of}
use Rattle.nf_rational_laws.proofs.IntegerRing.{ints_ring}
use Rattle.nf_rational.specs.Operations.{◌/ℚ◌, inv_ℚ}
use Rattle.nf_rational_laws.proofs.Ratio.{Is-self, Is-same, Is-times, Is-whole, Is-ratio}
use Rattle.nf_rational_laws.proofs.Field.{rationals}
use Rattle.nf_rational_laws.proofs.Order.{ps_in, ps_out, <ℚ_irrefl}

-- ---- one over x
pub abs_positive : (n : ℤ) → n ≢ pos 0 → 0 < nat_abs n
abs_positive (pos zero) h = absurd (h refl)
abs_positive (pos (suc n)) h = omega arith
abs_positive (negsuc n) h = omega arith

both_negative : (a d : ℤ) → neg_ℤ a *ℤ neg_ℤ d *ℤ pos 1 ≡ pos 1 *ℤ (d *ℤ a)
both_negative a d = ring ints_ring (a ∷ d ∷ []) (search reading depth 30) tt

signed_times : (n : ℤ) (d : ℕ) → n *ℤ signed_as n d *ℤ pos 1 ≡ pos 1 *ℤ (pos d *ℤ pos (nat_abs n))
signed_times (pos a) d = ap pos (omega arith)
signed_times (negsuc a) d = both_negative (pos (suc a)) (pos d)

pub num_zero : (x : ℚ) → x.num ≡ pos 0 → x ≡ 0ℚ
num_zero x e = Is-same _ _ _ _ (Is-self x) (Is-whole (pos 0)) (crossed x.num (pos x.den) e)
  where
    crossed : (n d : ℤ) → n ≡ pos 0 → n *ℤ pos 1 ≡ pos 0 *ℤ d
    crossed n d e = combine ints_ring (n ∷ d ∷ []) (using (pos 1) e (search reading depth 10) done) (search reading depth 10) tt

pub times_inv : (x : ℚ) → x ≢ 0ℚ → x *ℚ inv_ℚ x ≡ 1ℚ
unfolding inv_ℚ
times_inv x h =
    let some : 0 < nat_abs x.num = abs_positive x.num (λ e. h (num_zero x e)) in
    Is-same _ _ _ _ (Is-times _ _ _ _ (Is-self x) (Is-ratio (signed_as x.num x.den) (nat_abs x.num) some)) (Is-whole (pos 1)) (signed_times x.num x.den)

pub ps_apart : (x : ℚ) → 0ℚ <ℚ x → x ≢ 0ℚ
ps_apart x h e = <ℚ_irrefl x (subst (λ (z : ℚ). z <ℚ x) (sym e) h)

signed_ps : (n : ℤ) (d : ℕ) → pos 0 <ℤ n → 0 < d → pos 0 <ℤ signed_as n d
signed_ps (pos n) d h k = pos_in d k
signed_ps (negsuc n) d h k = absurd h.lt

pub ps_inv : (x : ℚ) → 0ℚ <ℚ x → 0ℚ <ℚ inv_ℚ x
unfolding inv_ℚ
ps_inv x h = ps_in _ _ (Is-ratio (signed_as x.num x.den) (nat_abs x.num) (abs_positive x.num (λ e. ps_apart x h (num_zero x e))))
    (signed_ps x.num x.den (ps_out _ _ (Is-self x) h) x.positive)

pub ps_times_inv : (x : ℚ) → 0ℚ <ℚ x → x *ℚ inv_ℚ x ≡ 1ℚ
ps_times_inv x h = times_inv x (ps_apart x h)

pub /ℚ_is : (x y : ℚ) → x /ℚ y ≡ x *ℚ inv_ℚ y
unfolding ◌/ℚ◌
/ℚ_is x y = refl

by_inverse : (x y q v : ℚ) → q ≡ x *ℚ v → y *ℚ v ≡ 1ℚ → q *ℚ y ≡ x
by_inverse x y q v e f = combine rationals (x ∷ y ∷ q ∷ v ∷ []) (using y e (search reading_of) (using x f (search reading_of) done)) (search reading_of) tt

-- the slope times the run is the rise
pub /ℚ-times : (x y : ℚ) → y ≢ 0ℚ → x /ℚ y *ℚ y ≡ x
/ℚ-times x y h = by_inverse x y (x /ℚ y) (inv_ℚ y) (/ℚ_is x y) (times_inv y h)

-- a quotient is the one number that gives x times y
from_product : (x y q v : ℚ) → q *ℚ y ≡ x → y *ℚ v ≡ 1ℚ → q ≡ x *ℚ v
from_product x y q v e f = combine rationals (x ∷ y ∷ q ∷ v ∷ []) (using v e (search reading_of) (using (neg_ℚ q) f (search reading_of) done)) (search reading_of) tt

pub /ℚ-unique : (x y q : ℚ) → y ≢ 0ℚ → q *ℚ y ≡ x → q ≡ x /ℚ y
/ℚ-unique x y q h e = from_product x y q (inv_ℚ y) e (times_inv y h) ∙ sym (/ℚ_is x y)

-- ---- tests, the lesser and the greater
