-- Theorems on finite systems of linear inequalities over the rational numbers.
use Rattle.std.specs.Prelude.{ℕ, List, ◌⊎◌}
use Rattle.nf_rational.specs.Rational.{ℚ}
use Rattle.nf_rational.specs.Order.{◌≤ℚ◌}
use Rattle.nf_linear_laws.specs.Systems.{Form, form_value, AtMost, MeetsAll}

-- Each system has a solution, or has none.
abbrev pub SystemIsDecided : Type 0
SystemIsDecided = (system : List AtMost) → ((x : ℕ → ℚ) × MeetsAll system x) ⊎ ((x : ℕ → ℚ) → MeetsAll system x → ⊥)

-- If there is a solution and the objective is at least `floor` on all solutions, some solution has the least objective.
abbrev pub LeastIsTaken : Type 0
LeastIsTaken = (system : List AtMost) (objective : Form) (start : ℕ → ℚ) (floor : ℚ) → MeetsAll system start
    → ((x : ℕ → ℚ) → MeetsAll system x → floor ≤ℚ form_value objective x)
    → (x : ℕ → ℚ) × MeetsAll system x × ((y : ℕ → ℚ) → MeetsAll system y → form_value objective x ≤ℚ form_value objective y)
