-- The parts of a fraction in lowest terms determine it, and are determined by it.
use Rattle.std.specs.Prelude.{◌≡◌, ℕ, ℤ}
use Rattle.nf_rational.specs.Rational.{ratio}
use Rattle.nf_rational.proofs.Lowest.{num-ratio, den-ratio}
use Rattle.nf_frac.specs.Parts.{InForm}

pub parts_back : (n : ℤ) (d : ℕ) → InForm n d → ((ratio n d).num ≡ n) × ((ratio n d).den ≡ d)
parts_back n d h = (num-ratio n d h.positive h.lowest, den-ratio n d h.positive h.lowest)
