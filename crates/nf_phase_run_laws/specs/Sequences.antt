-- Phase sequences can be extended up to the horizon.
use Rattle.std.specs.Prelude.{◌≡◌, ◌⊎◌, ℕ, suc, ◌≤◌, List, length, Some, slice_get}
use Rattle.nf_rational.specs.Rational.{ℚ}
use Rattle.nf_rational.specs.Operations.{0ℚ}
use Rattle.nf_rational.specs.Order.{◌≤ℚ◌}
use Rattle.nf_model.specs.Network.{Network, IsNetwork}
use Rattle.nf_model.specs.Phases.{IsPhaseSequence}

-- The phase sequence reaches the horizon; no phase extends it further.
abbrev pub ComesTo : ℚ → List (ℚ × List ℚ) → Type 0
ComesTo horizon phases = (place : ℕ) × (labels : List ℚ) × (slice_get phases place ≡ Some (horizon, labels))

-- For every number `many` there is a phase sequence of `many` phases, or one of fewer that reaches the horizon.
abbrev pub PhaseSequencesGoOn : Type 0
PhaseSequencesGoOn = (net : Network) (horizon : ℚ) (many : ℕ) → IsNetwork net → 0ℚ ≤ℚ horizon
    → (phases : List (ℚ × List ℚ)) × IsPhaseSequence net horizon phases
    × ((length phases ≡ suc many) ⊎ ((length phases ≤ many) × ComesTo horizon phases))
