-- The reachable run states, what each satisfies, and the reasons why no further phase is computed.
use Rattle.std.specs.Prelude.{◌≡◌, ℕ, suc, List, Some, None}
use Rattle.nf_rational.specs.Rational.{ℚ}
use Rattle.nf_frac_def.specs.Passing.{Passing}
use Rattle.nf_model.specs.Network.{Network}
use Rattle.nf_model.specs.Phases.{IsPhase}
use Rattle.nf_model.specs.Equilibrium.{Equilibrium}
use Rattle.nf_net_def.specs.declared.Cause.{Cause}
use Rattle.nf_thin_def.specs.PhaseRun.{Standing, IsStart, Goes, Fails, IsShortFlow, flow_of}
use Rattle.nf_thin_def.specs.Ends.{EndsAtLabels}
use Rattle.nf_phase_def.specs.Restoring.{IsRestored}
use Rattle.nf_phase_def.specs.Open.{Continues, with_last}
use Rattle.nf_phase_def.specs.ToEnd.{Tail}
use Rattle.nf_phase_def.specs.ToEnd.{FailsOn}
use Rattle.nf_phase_laws.specs.RunLaws.{KeepsLabels}
use Rattle.nf_thin.specs.declared.fault.SearchFault.TheVariants as SearchFault
use Rattle.nf_thin.specs.ThinFlow.{ThinFlow}
use Rattle.nf_phase.specs.declared.fault.StepFault.{StepFault}

-- A run begins at departure 0, or is restored from a flow. It is extended phase by phase, each phase with its own horizon and budget of
-- patterns. A phase that is the remainder of an interrupted one may keep the last pattern.
pub data Reaches (passes : Passing) (net : Network) : Standing → Type 0 where
  starts : {s : Standing} → IsStart net s → Reaches passes net s
  restored : {s : Standing} → IsRestored passes net s → Reaches passes net s
  goes_on : (horizon : ℚ) (patterns : ℕ) {s new : Standing} → Reaches passes net s → Goes passes net horizon patterns s new
      → Reaches passes net new
  keeps_on : (horizon : ℚ) (patterns : ℕ) {s new : Standing} → Reaches passes net s → Continues net s
      → Goes passes net horizon patterns s new → Reaches passes net (with_last s.last new)

-- What each reachable run state satisfies: its flow is an equilibrium up to the departure reached, in short form. The curves end at its
-- labels, and these are the values of the label curves.
pub record IsRunState (passes : Passing) (net : Network) (s : Standing) : Type 0 where
  pub reaches : Reaches passes net s
  pub equilibrium : Equilibrium net (flow_of s)
  pub short : IsShortFlow net (flow_of s)
  pub ends : EndsAtLabels net s
  pub labels : KeepsLabels net s

-- The fault at phase number `phase` represents one of these causes. An allocation failure implies nothing, and is never the payload of
-- `Search`.
abbrev pub IsFaultOf : (Cause ℚ → Type 0) → ℕ → StepFault → Type 0
IsFaultOf Causes phase (StepFault.Search (SearchFault.Budget tried)) = Causes (Cause.Patterns phase tried)
IsFaultOf Causes phase (StepFault.Search (SearchFault.Passed place at)) = Causes (Cause.Passed phase (Some place) at)
IsFaultOf Causes phase (StepFault.Search SearchFault.NoPattern) = Causes (Cause.NoPattern phase)
IsFaultOf Causes phase (StepFault.Search SearchFault.Memory) = ⊥
IsFaultOf Causes phase (StepFault.Passed at) = Causes (Cause.Passed phase None at)
IsFaultOf Causes phase StepFault.Memory = Unit {0}

-- Why the next phase is not computed, to a horizon or with unlimited length.
abbrev pub IsCause : Passing → Network → ℚ → ℕ → Standing → StepFault → Type 0
IsCause passes net horizon patterns s = IsFaultOf (Fails passes net horizon patterns s) (suc s.made)

abbrev pub IsCauseOn : Passing → Network → ℕ → Standing → StepFault → Type 0
IsCauseOn passes net patterns s = IsFaultOf (FailsOn passes net patterns s) (suc s.made)

-- The slopes and flows of a thin flow by which the run continues forever.
abbrev pub tail_by : ThinFlow → Tail
tail_by thin = record { slopes = thin.slopes.items; flows = thin.flows.items }

-- One phase leads from the old departure and labels to the new ones, and to no others.
pub record LeadsOnlyTo (net : Network) (horizon : ℚ) (old new : ℚ × List ℚ) : Type 0 where
  pub is_phase : IsPhase net horizon old new
  pub only : (other : ℚ × List ℚ) → IsPhase net horizon old other → other ≡ new
