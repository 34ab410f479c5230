-- What tests say of a horizon.
use Rattle.std.proofs.Common.{◌≡◌, ⊎_elim, true, false, subst}
use Rattle.nf_rational.specs.Rational.{ℚ}
use Rattle.nf_rational.specs.Operations.{0ℚ}
use Rattle.nf_rational.specs.Order.{◌≤ℚ◌, ◌<ℚ◌, lt_ℚ}
use Rattle.nf_rational_laws.proofs.Results.{not_both}
use Rattle.nf_rational_laws.proofs.Tests.{lt_ℚ_cases}

-- what isn't below 0 is at least 0
pub not_below : (x zero : ℚ) → zero ≡ 0ℚ → lt_ℚ x zero ≡ false → 0ℚ ≤ℚ x
not_below x zero e t = subst (λ (z : ℚ). z ≤ℚ x) e (⊎_elim
    (λ (a : (lt_ℚ x zero ≡ true) × (x <ℚ zero)). absurd (not_both (lt_ℚ x zero) a.0 t))
    (λ (a : (lt_ℚ x zero ≡ false) × (zero ≤ℚ x)). a.1)
    (lt_ℚ_cases x zero))
