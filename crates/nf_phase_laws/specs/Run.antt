-- Flows built phase by phase from the start.
use Rattle.std.specs.Prelude.{ℕ, List}
use Rattle.nf_rational.specs.Rational.{ℚ}
use Rattle.nf_rational.specs.Operations.{0ℚ}
use Rattle.nf_model.specs.Entries.{number_at}
use Rattle.nf_model.specs.Network.{Network}
use Rattle.nf_model.specs.Phases.{AreStartLabels, IsPhase}
use Rattle.nf_phase_laws.specs.Invariant.{StartsEmpty, GoesOn}

-- The flow of a phase sequence up to a departure, with the labels there. At first nothing has entered a link, and the labels are the least
-- transit sums. Each phase extends the flow by its thin flow for its length.
pub data GoesByPhases (net : Network) (horizon : ℚ) : ℚ → List ℚ → (ℕ → ℚ → ℚ) → (ℕ → ℚ → ℚ) → Type 0 where
  begins : (labels : List ℚ) (amount label : ℕ → ℚ → ℚ) → AreStartLabels net labels → StartsEmpty net labels amount label
      → GoesByPhases net horizon 0ℚ labels amount label
  goes_on : (time time' : ℚ) (labels labels' : List ℚ) (amount label amount' label' : ℕ → ℚ → ℚ)
      (phase : IsPhase net horizon (time, labels) (time', labels'))
      → GoesByPhases net horizon time labels amount label
      → GoesOn net amount label time phase.length (number_at phase.flows) (number_at phase.slopes) amount' label'
      → GoesByPhases net horizon time' labels' amount' label'
