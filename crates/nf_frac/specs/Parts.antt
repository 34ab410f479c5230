-- The parts of fractions, and bounds on them. A part is a numerator or denominator.
use Rattle.std.specs.Prelude.{◌≡◌, ◌≢◌, ℕ, ◌-◌, ◌*◌, ◌/◌, ◌^◌, ◌<◌, ◌≤◌, Bool, true, false, ℤ, pos, ◌+ℤ◌, ◌*ℤ◌, neg_ℤ, nat_abs}
use Rattle.nf_rational.specs.Gcd.{gcd}
use Rattle.nf_rational.specs.Rational.{ℚ}
use Rattle.nf_rational.specs.Operations.{whole, ◌/ℚ◌}

-- the greatest magnitude of a part: an i128 holds it and its negation
abbrev pub greatest : ℕ
greatest = 2 ^ 127 - 1

-- the parts of a fraction, in lowest terms
pub record InForm (n : ℤ) (d : ℕ) : Type 0 where
  pub positive : 0 < d
  pub small : nat_abs n ≤ greatest
  pub small_den : d ≤ greatest
  pub lowest : gcd (nat_abs n) d ≡ 1

-- neither part of q, in lowest terms, exceeds the limit in magnitude
pub record IsWithin (limit : ℕ) (q : ℚ) : Type 0 where
  pub small : nat_abs q.num ≤ limit
  pub small_den : q.den ≤ limit

-- in the sum over the least common denominator neither this denominator, nor a scaled numerator, nor their sum exceeds the limit
pub record SumFits (limit : ℕ) (x y : ℚ) : Type 0 where
  pub denominator : x.den * (y.den / gcd x.den y.den) ≤ limit
  pub left : nat_abs (x.num *ℤ pos (y.den / gcd x.den y.den)) ≤ limit
  pub right : nat_abs (y.num *ℤ pos (x.den / gcd x.den y.den)) ≤ limit
  pub total : nat_abs (x.num *ℤ pos (y.den / gcd x.den y.den) +ℤ y.num *ℤ pos (x.den / gcd x.den y.den)) ≤ limit

-- the whole number with this sign and magnitude
abbrev pub signed : Bool → ℕ → ℤ
signed true m = neg_ℤ (pos m)
signed false m = pos m

-- n over d is a fraction within the limit: d is not 0, and neither reduced part exceeds the limit
pub record IsMade (limit : ℕ) (n d : ℤ) : Type 0 where
  pub some : d ≢ pos 0
  pub fits : IsWithin limit (whole n /ℚ whole d)
