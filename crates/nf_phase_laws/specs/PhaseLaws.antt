-- Theorems on phases: each phase preserves the invariant, which makes the flow a Nash flow over time (Koch and Skutella 2011).
use Rattle.std.specs.Prelude.{ℕ, List}
use Rattle.nf_rational.specs.Rational.{ℚ}
use Rattle.nf_rational.specs.Operations.{0ℚ, ◌+ℚ◌}
use Rattle.nf_model.specs.Entries.{number_at}
use Rattle.nf_model.specs.Network.{Network, IsNetwork, hops, rate_at}
use Rattle.nf_model.specs.ThinFlow.{slacks_of, sets_at, IsThinFlow}
use Rattle.nf_model.specs.Equilibrium.{IsNashFlow}
use Rattle.nf_model.specs.Phases.{Lasts, AreStartLabels}
use Rattle.nf_phase_laws.specs.Invariant.{HoldsUpTo, LabelsAre, StartsEmpty, GoesOn}
use Rattle.nf_phase_laws.specs.Run.{GoesByPhases}

-- A flow that satisfies the invariant up to a departure is a Nash flow over time up to that departure.
abbrev pub NashFromInvariant : Type 0
NashFromInvariant = (net : Network) (amount label : ℕ → ℚ → ℚ) (until : ℚ) → IsNetwork net → HoldsUpTo net amount label until
    → IsNashFlow net amount label until

-- The invariant holds up to time 0 at the start, where nothing has entered a link and the labels are the least transit sums.
abbrev pub StartHasInvariant : Type 0
StartHasInvariant = (net : Network) (labels : List ℚ) (amount label : ℕ → ℚ → ℚ) → IsNetwork net → AreStartLabels net labels
    → StartsEmpty net labels amount label
    → HoldsUpTo net amount label 0ℚ

-- The invariant holds up to a departure with these labels. The flow is extended by a thin flow for the sets of their slacks and the supply
-- rate, for at most as long as such a phase can last. Then the invariant holds up to the end of the extension.
abbrev pub PhaseKeepsInvariant : Type 0
PhaseKeepsInvariant = (net : Network) (amount label amount' label' : ℕ → ℚ → ℚ) (until length : ℚ) (labels flows slopes : List ℚ)
    → IsNetwork net → HoldsUpTo net amount label until → LabelsAre net label until labels
    → IsThinFlow net (sets_at net labels) (rate_at net until) flows slopes
    → Lasts net (slacks_of (hops net) labels) slopes until length
    → GoesOn net amount label until length (number_at flows) (number_at slopes) amount' label'
    → HoldsUpTo net amount' label' (until +ℚ length)

-- A flow built phase by phase satisfies the invariant, and its labels at the end are those of the last phase.
pub record PhasesKeepInvariant : Type 0 where
  pub holds : (net : Network) (horizon until : ℚ) (labels : List ℚ) (amount label : ℕ → ℚ → ℚ) → IsNetwork net
      → GoesByPhases net horizon until labels amount label
      → HoldsUpTo net amount label until
  pub labels : (net : Network) (horizon until : ℚ) (labels : List ℚ) (amount label : ℕ → ℚ → ℚ) → IsNetwork net
      → GoesByPhases net horizon until labels amount label
      → LabelsAre net label until labels

-- A flow built phase by phase is a Nash flow over time, for everything that leaves the source up to the end of the last phase.
abbrev pub PhasesMakeNashFlow : Type 0
PhasesMakeNashFlow = (net : Network) (horizon until : ℚ) (labels : List ℚ) (amount label : ℕ → ℚ → ℚ) → IsNetwork net
    → GoesByPhases net horizon until labels amount label
    → IsNashFlow net amount label until
