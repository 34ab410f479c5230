-- Halves.
use Rattle.std.proofs.Common.{◌≡◌, ◌≢◌, [], ◌∷◌, ap, ◌∙◌}
use Rattle.nf_rational.specs.Rational.{ℚ}
use Rattle.nf_rational.specs.Operations.{0ℚ, 1ℚ, ◌+ℚ◌, ◌*ℚ◌, ◌/ℚ◌}
use Rattle.nf_rational.specs.Order.{◌<ℚ◌}
use Rattle.nf_rational_laws.proofs.Polynomial.{reading_of}
use Rattle.nf_rational_laws.proofs.Linear.{eq, linear_eq, linear_lt}
use Rattle.nf_rational_laws.proofs.Quotient.{/ℚ-times, ps_apart}

above : (two : ℚ) → two ≡ 1ℚ +ℚ 1ℚ → 0ℚ <ℚ two
above two e = linear_lt (two ∷ []) (eq e ∷ []) (search reading_of depth 12) tt

pub two_apart : (two : ℚ) → two ≡ 1ℚ +ℚ 1ℚ → two ≢ 0ℚ
two_apart two e = ps_apart two (above two e)

pub half_twice : (sum two : ℚ) → two ≡ 1ℚ +ℚ 1ℚ → sum /ℚ two +ℚ sum /ℚ two ≡ sum
half_twice sum two e =
    let q = sum /ℚ two in
    linear_eq (q ∷ sum ∷ two ∷ []) (eq (doubled q) ∷ eq (/ℚ-times sum two (two_apart two e)) ∷ []) (search reading_of depth 12) tt tt
  where
    doubled : (q : ℚ) → q *ℚ two ≡ q +ℚ q
    doubled q = ap (λ (t : ℚ). q *ℚ t) e ∙ linear_eq (q ∷ []) [] (search reading_of depth 12) tt tt
