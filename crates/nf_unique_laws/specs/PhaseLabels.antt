-- The labels of an equilibrium, compared with those of phases.
use Rattle.std.specs.Prelude.{◌≡◌, ℕ, List, length, Some, slice_get}
use Rattle.nf_rational.specs.Rational.{ℚ}
use Rattle.nf_rational.specs.Operations.{0ℚ, ◌-ℚ◌}
use Rattle.nf_rational.specs.Order.{◌≤ℚ◌}
use Rattle.nf_model.specs.Curve.{Within}
use Rattle.nf_model.specs.Network.{Network, IsNetwork}
use Rattle.nf_model.specs.Phases.{moved, IsPhase, IsPhaseSequence}
use Rattle.nf_model.specs.Equilibrium.{Flow, label, Equilibrium}
use Rattle.nf_phase_laws.specs.Invariant.{LabelsAre}

-- If an equilibrium has the labels at which a phase begins, each of its labels changes at the slope of the phase, as far as both reach. So
-- it has the labels of a phase sequence at each departure of the sequence that it describes.
pub record LabelsFollowPhases : Type 0 where
  pub phase : (net : Network) (horizon : ℚ) (old new : ℚ × List ℚ) (phase : IsPhase net horizon old new) (flow : Flow) (departure : ℚ)
      → IsNetwork net → Equilibrium net flow
      → 0ℚ ≤ℚ old.0 → length old.1 ≡ net.nodes → LabelsAre net (label flow) old.0 old.1 → Within old.0 new.0 departure
      → departure ≤ℚ flow.reached
      → LabelsAre net (label flow) departure (moved old.1 phase.slopes (departure -ℚ old.0))
  pub sequence : (net : Network) (horizon : ℚ) (phases : List (ℚ × List ℚ)) (flow : Flow) (i : ℕ) (time : ℚ) (labels : List ℚ)
      → IsNetwork net → Equilibrium net flow
      → IsPhaseSequence net horizon phases → slice_get phases i ≡ Some (time, labels) → time ≤ℚ flow.reached
      → LabelsAre net (label flow) time labels
