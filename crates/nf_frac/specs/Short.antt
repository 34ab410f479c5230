-- Small numbers: their parts have at most 63 bits.
use Rattle.std.specs.Prelude.{◌≡◌, ℕ, ◌<◌, ◌≤◌, ℤ, nat_abs}
use Rattle.nf_frac.specs.declared.short.TheConstants.{SHORT}
use Rattle.nf_rational.specs.Gcd.{gcd}
use Rattle.nf_rational.specs.Rational.{ℚ, ratio}
use Rattle.nf_rational.proofs.Lowest.{num-ratio, den-ratio}
use Rattle.nf_frac.specs.Parts.{greatest, IsWithin}

-- the greatest magnitude of a part with 63 bits: 2^63 - 1
abbrev pub short : ℕ
short = SHORT

-- the parts of a small number, in lowest terms
pub record AreShortParts (n : ℤ) (d : ℕ) : Type 0 where
  pub positive : 0 < d
  pub small : nat_abs n ≤ short
  pub small_den : d ≤ short
  pub lowest : gcd (nat_abs n) d ≡ 1

pub short_back : (n : ℤ) (d : ℕ) → AreShortParts n d → ((ratio n d).num ≡ n) × ((ratio n d).den ≡ d)
short_back n d h = (num-ratio n d h.positive h.lowest, den-ratio n d h.positive h.lowest)

-- the pair has the values x and y, both are small, and the bound is the widest
pub record AreSmall (limit : ℕ) (x y : ℚ) (pair : ℚ × ℚ) : Type 0 where
  pub widest : limit ≡ greatest
  pub left : pair.0 ≡ x
  pub right : pair.1 ≡ y
  pub left_small : IsWithin short x
  pub right_small : IsWithin short y
