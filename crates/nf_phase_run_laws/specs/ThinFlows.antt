-- Thin flows exist at every run state.
use Rattle.std.specs.Prelude.{◌≡◌, ℕ, List, Option, Some, slice_get}
use Rattle.nf_rational.specs.Rational.{ℚ}
use Rattle.nf_rational.specs.Operations.{0ℚ}
use Rattle.nf_frac_def.specs.Passing.{Passing}
use Rattle.nf_model.specs.Curve.{Within}
use Rattle.nf_model.specs.Network.{Network, IsNetwork, rate_at}
use Rattle.nf_model.specs.ThinFlow.{sets_at, IsThinFlow}
use Rattle.nf_model.specs.Phases.{IsPhaseSequence}
use Rattle.nf_model.specs.Equilibrium.{Flow, label, Equilibrium}
use Rattle.nf_net_def.specs.declared.Cause.{Cause}
use Rattle.nf_net_def.specs.Report.{Report, IsWellFormed}
use Rattle.nf_thin_def.specs.PhaseRun.{Standing, Bounds, IsPhaseRun}
use Rattle.nf_phase_laws.specs.Invariant.{LabelsAre}
use Rattle.nf_forever_def.specs.ForeverRun.{End, IsForeverRun}
use Rattle.nf_resume_def.specs.Meanings.{IsResumed}

-- A thin flow exists for the sets of these labels and the supply rate at this departure.
abbrev pub HasThinFlow : Network → ℚ → List ℚ → Type 0
HasThinFlow net departure labels = (flows : List ℚ) × (slopes : List ℚ)
    × IsThinFlow net (sets_at net labels) (rate_at net departure) flows slopes

-- There is a thin flow at the labels of an equilibrium, at each departure that it describes. There is one at each point of a phase
-- sequence, and where a run ends: from the start, resumed from a report or without a horizon, for any number of phases.
pub record LabelsHaveThinFlow : Type 0 where
  pub equilibrium : (net : Network) (flow : Flow) (departure : ℚ) (labels : List ℚ) → IsNetwork net → Equilibrium net flow
      → Within 0ℚ flow.reached departure
      → LabelsAre net (label flow) departure labels → HasThinFlow net departure labels
  pub sequence : (net : Network) (horizon : ℚ) (phases : List (ℚ × List ℚ)) (place : ℕ) (departure : ℚ) (labels : List ℚ) → IsNetwork net
      → IsPhaseSequence net horizon phases
      → slice_get phases place ≡ Some (departure, labels) → HasThinFlow net departure labels
  pub run : (passes : Passing) (net : Network) (bounds : Bounds) (last : Standing) (stop : Option (Cause ℚ)) → IsNetwork net
      → IsPhaseRun passes net bounds last stop
      → HasThinFlow net last.time last.labels
  pub resumed : (passes : Passing) (net : Network) (bounds : Bounds) (old : Report) (last : Standing) (stop : Option (Cause ℚ))
      → IsNetwork net → IsWellFormed net old
      → IsResumed passes net bounds old last stop → HasThinFlow net last.time last.labels
  pub forever : (passes : Passing) (net : Network) (phases patterns : ℕ) (last : Standing) (end : End) → IsNetwork net
      → IsForeverRun passes net phases patterns last end
      → HasThinFlow net last.time last.labels
