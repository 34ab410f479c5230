-- Numbers within a bound, and the test for it.
use Rattle.std.proofs.Common.{◌≡◌, ℕ, ◌≤◌, Bool, true, false, ◌||◌, ltb, nat_abs, refl, arith}
use borrow.Author.Tests.{ltb-false}
use Rattle.nf_rational.specs.Rational.{ℚ}
use Rattle.nf_frac_def.specs.Passing.{is_wide}
use Rattle.nf_frac.specs.Parts.{IsWithin}

pub none_of : (a b : Bool) → (a || b) ≡ false → (a ≡ false) × (b ≡ false)
none_of true b e = cc
none_of false b e = (refl, e)

pub neither : (a b : Bool) → a ≡ false → b ≡ false → (a || b) ≡ false
neither true b e f = e
neither false b e f = f

pub not_lower : (m k : ℕ) → k ≤ m → ltb m k ≡ false
not_lower m k h = grind arith

pub narrow_in : (b : ℕ) (q : ℚ) → IsWithin b q → is_wide b q ≡ false
narrow_in b q w = neither _ _ (not_lower b (nat_abs q.num) w.small) (not_lower b q.den w.small_den)

pub narrow_out : (b : ℕ) (q : ℚ) → is_wide b q ≡ false → IsWithin b q
narrow_out b q e = let h = none_of _ _ e in record { small = ltb-false b (nat_abs q.num) h.0; small_den = ltb-false b q.den h.1 }
