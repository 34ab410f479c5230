-- Theorems on resumed runs.
use Rattle.std.specs.Prelude.{◌≡◌, ℕ, List, length, Ok}
use Rattle.nf_rational.specs.Rational.{ℚ}
use Rattle.nf_rational.specs.Operations.{0ℚ, ◌+ℚ◌, ◌-ℚ◌}
use Rattle.nf_rational.specs.Order.{◌≤ℚ◌, ◌<ℚ◌}
use Rattle.nf_frac_def.specs.Passing.{Passing}
use Rattle.nf_model.specs.Network.{Network, IsNetwork, hops, unbounded}
use Rattle.nf_model.specs.ThinFlow.{slacks_of, sets_at}
use Rattle.nf_model.specs.Pattern.{Pattern, IsPattern, IsListedIn, IsBase, IsSolution}
use Rattle.nf_model.specs.Phases.{Lasts, IsExtension, moved}
use Rattle.nf_model.specs.Equilibrium.{Flow, Equilibrium}
use Rattle.nf_resume_def.specs.Resuming.{cut_flow}
use Rattle.nf_net_def.specs.Report.{Report}
use Rattle.nf_thin_def.specs.PhaseRun.{Standing, Bounds, IsStart, IsShortFlow}
use Rattle.nf_phase_def.specs.Open.{IsOpen, Continues}
use Rattle.nf_resume_def.specs.Meanings.{GoesOnFrom, IsResumedReport}

-- An equilibrium, cut at the departure that it reached and put into short form, is an equilibrium with the same values.
pub record CutFlowIsEquilibrium : Type 0 where
  pub equilibrium : (passes : Passing) (net : Network) (old new : Flow) → IsNetwork net → Equilibrium net old
      → cut_flow passes net old ≡ Ok new → Equilibrium net new
  pub goes_on : (passes : Passing) (net : Network) (old new : Flow) → IsNetwork net → Equilibrium net old → cut_flow passes net old ≡ Ok new
      → GoesOnFrom net old new
  pub short : (passes : Passing) (net : Network) (old new : Flow) → IsNetwork net → Equilibrium net old → cut_flow passes net old ≡ Ok new
      → IsShortFlow net new

-- The report of a resumed run is an equilibrium, and has the values of the report that it continues.
abbrev pub ResumedReportGoesOn : Type 0
ResumedReportGoesOn = (passes : Passing) (net : Network) (bounds : Bounds) (old : Report) (phases : ℕ) (report : Report) → IsNetwork net
    → Equilibrium net old.flow → IsResumedReport passes net bounds old phases report
    → Equilibrium net report.flow × GoesOnFrom net old.flow report.flow

-- The run has completed a part of a phase. Its state is `done` after the departure `time`, its labels moved at these slopes since then, and
-- its last pattern is that of the phase.
pub record IsPartOf (net : Network) (time : ℚ) (labels slopes : List ℚ) (pattern : Pattern) (done : ℚ) (s : Standing) : Type 0 where
  pub is_pattern : IsPattern (sets_at net labels) (unbounded net) pattern
  pub count : length labels ≡ length slopes
  pub not_negative : 0ℚ ≤ℚ done
  pub labels_are : s.labels ≡ moved labels slopes done
  pub time_is : s.time ≡ time +ℚ done
  pub last_is : s.last ≡ pattern

-- A run is mid-phase exactly if its state lies within a phase.
pub record OpenIsWithinPhase : Type 0 where
  pub within : (net : Network) (time : ℚ) (labels slopes : List ℚ) (pattern : Pattern) (done : ℚ) (s : Standing) → IsNetwork net
      → IsPartOf net time labels slopes pattern done s
      → (whole : ℚ) → Lasts net (slacks_of (hops net) labels) slopes time whole → 0ℚ <ℚ done → done <ℚ whole → IsOpen net s
  pub ended : (net : Network) (time : ℚ) (labels slopes : List ℚ) (pattern : Pattern) (done : ℚ) (s : Standing) → IsNetwork net
      → IsPartOf net time labels slopes pattern done s
      → IsExtension net (slacks_of (hops net) labels) slopes time done → ¬ IsOpen net s
  pub at_start : (net : Network) (s : Standing) → IsNetwork net → IsStart net s → ¬ Continues net s

-- The remainder of a phase: the base pattern derived from the phase's pattern is listed, its unique solution is that of the phase, and its
-- extension length is the remaining length.
pub record IsRestOf (net : Network) (rate done whole : ℚ) (flows slopes : List ℚ) (s : Standing) (base : Pattern) : Type 0 where
  pub listed : IsListedIn net (sets_at net s.labels) base
  pub solution : IsSolution net (sets_at net s.labels) rate base flows slopes
  pub length : IsExtension net (slacks_of (hops net) s.labels) slopes s.time (whole -ℚ done)

abbrev pub RestGoesOn : Type 0
RestGoesOn = (net : Network) (time : ℚ) (labels slopes : List ℚ) (pattern : Pattern) (done : ℚ) (s : Standing) → IsNetwork net
    → IsPartOf net time labels slopes pattern done s
    → (rate whole : ℚ) (flows : List ℚ) (base : Pattern) → IsListedIn net (sets_at net labels) pattern
    → IsSolution net (sets_at net labels) rate pattern flows slopes
    → IsExtension net (slacks_of (hops net) labels) slopes time whole → 0ℚ <ℚ done → done <ℚ whole
    → IsBase (hops net) (sets_at net s.labels) s.last base
    → IsRestOf net rate done whole flows slopes s base
