-- Which numbers a system can hold.
use Rattle.std.proofs.Common.{Bool, true, not, IsTrue, refl, sym, subst}
use Rattle.nf_rational.specs.Gcd.{gcd}
use Rattle.nf_rational.specs.Rational.{ℚ, ratio}
use Rattle.nf_rational.specs.Operations.{whole, 0ℚ, 1ℚ, neg_ℚ}
use Rattle.nf_frac_def.specs.Passing.{is_wide}
use Rattle.nf_frac.specs.Narrow.{narrow_in}
use Rattle.nf_frac.specs.Parts.{IsWithin}
use Rattle.nf_frac.specs.Short.{short}

-- 0, 1 and -1 can be held
pub record HoldsUnits (takes : ℚ → Bool) : Type 0 where
  pub zero : IsTrue (takes 0ℚ)
  pub one : IsTrue (takes 1ℚ)
  pub minus_one : IsTrue (takes (neg_ℚ 1ℚ))

-- they can be where all numbers can
pub any_holds : HoldsUnits (λ (q : ℚ). true)
any_holds = record { zero = refl; one = refl; minus_one = refl }

-- small numbers are held: those whose parts have at most 63 bits
abbrev pub takes_small : ℚ → Bool
takes_small q = not (is_wide short q)

pub small_held : (q : ℚ) → IsWithin short q → IsTrue (takes_small q)
small_held q w = subst (λ (wide : Bool). IsTrue (not wide)) (sym (narrow_in short q w)) refl

zero_held : IsTrue (takes_small 0ℚ)
unfolding whole ratio gcd
zero_held = refl

one_held : IsTrue (takes_small 1ℚ)
unfolding whole ratio gcd
one_held = refl

minus_one_held : IsTrue (takes_small (neg_ℚ 1ℚ))
unfolding whole ratio gcd neg_ℚ
minus_one_held = refl

pub small_units : HoldsUnits takes_small
small_units = record { zero = zero_held; one = one_held; minus_one = minus_one_held }
