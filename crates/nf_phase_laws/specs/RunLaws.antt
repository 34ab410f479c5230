-- Properties of the network that the report of a phase run implies.
use Rattle.std.specs.Prelude.{◌≡◌, ℕ, suc, ◌<◌, List, length, Option, Some, None, Ok, slice_get}
use Rattle.nf_rational.specs.Rational.{ℚ}
use Rattle.nf_rational.specs.Operations.{0ℚ}
use Rattle.nf_frac_def.specs.Passing.{Passing}
use Rattle.nf_model.specs.Entries.{number_at}
use Rattle.nf_model.specs.Curve.{Within}
use Rattle.nf_model.specs.Network.{Network, IsNetwork, ArePieces}
use Rattle.nf_model.specs.Earliest.{IsEarliest}
use Rattle.nf_model.specs.Phases.{IsExtension, IsUnending, IsPhaseSequence}
use Rattle.nf_model.specs.Equilibrium.{label, inflow, HasShape, HasSlopes, Equilibrium}
use Rattle.nf_net_def.specs.declared.Cause.{Cause}
use Rattle.nf_net_def.specs.Report.{Report}
use Rattle.nf_thin_def.specs.Extend.{extend_list}
use Rattle.nf_thin_def.specs.PhaseRun.{Standing, Bounds, IsPhaseRun, IsRunReport, IsShortFlow, flow_of}
use Rattle.nf_phase_laws.specs.CurveRun.{GrowByPhases, curves_of}

-- The curves of a run are built phase by phase from the start.
abbrev pub RunGrowsByPhases : Type 0
RunGrowsByPhases = (passes : Passing) (net : Network) (bounds : Bounds) (last : Standing) (stop : Option (Cause ℚ)) → IsNetwork net
    → IsPhaseRun passes net bounds last stop
    → GrowByPhases net last.time last.labels (curves_of (flow_of last))

-- The flow of a run has one curve of each kind for each node or link.
abbrev pub RunHasShape : Type 0
RunHasShape = (passes : Passing) (net : Network) (bounds : Bounds) (last : Standing) (stop : Option (Cause ℚ)) → IsNetwork net
    → IsPhaseRun passes net bounds last stop
    → HasShape net (flow_of last)

-- The rates of a run are the slopes of its curves.
abbrev pub RunHasSlopes : Type 0
RunHasSlopes = (passes : Passing) (net : Network) (bounds : Bounds) (last : Standing) (stop : Option (Cause ℚ)) → IsNetwork net
    → IsPhaseRun passes net bounds last stop
    → HasSlopes (flow_of last).inflows × HasSlopes (flow_of last).outflows

-- The report of a phase run is an equilibrium.
abbrev pub RunReportIsEquilibrium : Type 0
RunReportIsEquilibrium = (passes : Passing) (net : Network) (bounds : Bounds) (report : Report) → IsNetwork net
    → IsRunReport passes net bounds report → Equilibrium net report.flow

-- ---- short form

-- The curves of a run are in short form, and so are those of its report.
pub record RunIsShort : Type 0 where
  pub run : (passes : Passing) (net : Network) (bounds : Bounds) (last : Standing) (stop : Option (Cause ℚ)) → IsNetwork net
      → IsPhaseRun passes net bounds last stop
      → IsShortFlow net (flow_of last)
  pub report : (passes : Passing) (net : Network) (bounds : Bounds) (report : Report) → IsNetwork net → IsRunReport passes net bounds report
      → IsShortFlow net report.flow

-- ---- labels

-- The labels of a run state are the values of the label curves at the departure reached.
pub record KeepsLabels (net : Network) (s : Standing) : Type 0 where
  pub count : length s.labels ≡ net.nodes
  pub values : (v : ℕ) → v < net.nodes → number_at s.labels v ≡ label (flow_of s) v s.time

-- `KeepsLabels` holds for the last state of a run.
abbrev pub RunKeepsLabels : Type 0
RunKeepsLabels = (passes : Passing) (net : Network) (bounds : Bounds) (last : Standing) (stop : Option (Cause ℚ)) → IsNetwork net
    → IsPhaseRun passes net bounds last stop
    → KeepsLabels net last

-- The labels of a run state are the earliest arrivals at the nodes of particles that leave the source at the departure reached. The labels
-- of its report are the earliest arrivals for each departure up to there.
pub record RunLabelsAreEarliest : Type 0 where
  pub run : (passes : Passing) (net : Network) (bounds : Bounds) (last : Standing) (stop : Option (Cause ℚ)) → IsNetwork net
      → IsPhaseRun passes net bounds last stop
      → (v : ℕ) → v < net.nodes → IsEarliest net (inflow (flow_of last)) v last.time (number_at last.labels v)
  pub report : (passes : Passing) (net : Network) (bounds : Bounds) (report : Report) → IsNetwork net → IsRunReport passes net bounds report
      → (v : ℕ) (departure : ℚ) → v < net.nodes → Within 0ℚ report.flow.reached departure
      → IsEarliest net (inflow report.flow) v departure (label report.flow v departure)

-- ---- phases of a run

-- The value of the extend list is the extension length, the greatest length of the phase. None implies that every length is possible.
pub record ExtendListIsExtension : Type 0 where
  pub length : (passes : Passing) (net : Network) (slacks slopes : List ℚ) (time length : ℚ) → ArePieces net.pieces
      → extend_list passes net slacks slopes time ≡ Ok (Some length)
      → IsExtension net slacks slopes time length
  pub none : (passes : Passing) (net : Network) (slacks slopes : List ℚ) (time : ℚ) → ArePieces net.pieces
      → extend_list passes net slacks slopes time ≡ Ok None
      → IsUnending net slacks slopes time

-- The departure that a run has reached, with the labels there.
abbrev pub reached_by : Standing → ℚ × List ℚ
reached_by s = (s.time, s.labels)

-- The phases of a run make a phase sequence. Each phase sequence to the same horizon with as many phases ends where the run ends.
pub record RunIsPhaseSequence : Type 0 where
  pub is_one : (passes : Passing) (net : Network) (bounds : Bounds) (last : Standing) (stop : Option (Cause ℚ)) → IsNetwork net
      → IsPhaseRun passes net bounds last stop
      → (phases : List (ℚ × List ℚ)) × IsPhaseSequence net bounds.horizon phases × (length phases ≡ suc last.made)
      × (slice_get phases last.made ≡ Some (reached_by last))
  pub ends : (passes : Passing) (net : Network) (bounds : Bounds) (last : Standing) (stop : Option (Cause ℚ)) (phases : List (ℚ × List ℚ))
      → IsNetwork net
      → IsPhaseRun passes net bounds last stop → IsPhaseSequence net bounds.horizon phases → length phases ≡ suc last.made
      → slice_get phases last.made ≡ Some (reached_by last)
