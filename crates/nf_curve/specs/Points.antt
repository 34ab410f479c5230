-- The view of a curve in contracts.
use Rattle.std.specs.Prelude.{ℕ, List, [], ◌∷◌, refl}
use Rattle.std.specs.Coded.{Coded, code_by, coded×, coded_ℕ}
use Rattle.nf_rational.specs.Rational.{ℚ}
use Rattle.nf_rational.specs.Operations.{0ℚ}
use Rattle.nf_model.specs.Codes.{coded_points}

-- returns the time of the last point, or 0 without points
abbrev pub last_time : List (ℚ × ℚ) → ℚ
last_time [] = 0ℚ
last_time (p ∷ []) = p.0
last_time (p ∷ q ∷ rest) = last_time (q ∷ rest)

-- `spare` is the number of pushes that cannot fail
pub record Grown : Type 0 where
  pub points : List (ℚ × ℚ)
  pub spare : ℕ

abbrev pub coded_grown : Coded Grown
coded_grown = code_by (List (ℚ × ℚ) × ℕ) (coded× coded_points coded_ℕ) (λ g. (g.points, g.spare))
    (λ p. record { points = p.0; spare = p.1 }) (λ _. refl)
