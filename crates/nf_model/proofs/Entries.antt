-- Entries of a list of zeros.
use Rattle.std.proofs.Common.{◌≡◌, ℕ, zero, suc, replicate, refl}
use Rattle.nf_rational.specs.Operations.{0ℚ}
use Rattle.nf_model.specs.Entries.{number_at}

pub number_at-zeros : (n e : ℕ) → number_at (replicate n 0ℚ) e ≡ 0ℚ
number_at-zeros zero e = refl
number_at-zeros (suc n) zero = refl
number_at-zeros (suc n) (suc e) = number_at-zeros n e
