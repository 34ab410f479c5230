-- The result of solving to a horizon.
use Rattle.std.specs.Prelude.{◌≡◌, ℕ, suc, Bool, if◌then◌else◌, List, length, Option, Some, None, slice_get}
use Rattle.nf_rational.specs.Rational.{ℚ}
use Rattle.nf_frac_def.specs.Passing.{passes_Q}
use Rattle.nf_model.specs.Network.{Network}
use Rattle.nf_model.specs.Phases.{IsPhaseSequence}
use Rattle.nf_model.specs.Equilibrium.{Equilibrium}
use Rattle.nf_net_def.specs.declared.Cause.{Cause}
use Rattle.nf_net_def.specs.Report.{Report, IsWellFormed}
use Rattle.nf_thin_def.specs.PhaseRun.{Standing, Bounds, IsRunReport, IsShortFlow, report_of}
use Rattle.nf_phase_def.specs.Open.{RunsOn}
use Rattle.nf_phase_laws.specs.RunLaws.{KeepsLabels, reached_by}
use Rattle.nf_curve.specs.Flows.{seen_flow}
use Rattle.nf_phase_def.specs.Restoring.{EndsAtItsLabels}
use Rattle.nf_thin.specs.declared.fault.SearchFault.TheVariants as SearchFault
use Rattle.nf_phase.specs.declared.fault.StepFault.{StepFault}
use Rattle.nf_phase.specs.declared.solution.Budgets.{Budgets}
use Rattle.nf_phase.specs.declared.solution.Solution.{Solution}

-- The limits of a run with these budgets.
abbrev pub bounds_of : ℚ → Budgets → Bounds
bounds_of horizon budgets = record { horizon = horizon; phases = budgets.phases; patterns = budgets.patterns }

-- Why a run stops at this phase; an allocation failure is no cause.
abbrev pub cause_of : ℕ → StepFault → Option (Cause ℚ)
cause_of phase (StepFault.Search (SearchFault.Budget tried)) = Some (Cause.Patterns phase tried)
cause_of phase (StepFault.Search (SearchFault.Passed place at)) = Some (Cause.Passed phase (Some place) at)
cause_of phase (StepFault.Search SearchFault.NoPattern) = Some (Cause.NoPattern phase)
cause_of phase (StepFault.Search SearchFault.Memory) = None
cause_of phase (StepFault.Passed at) = Some (Cause.Passed phase None at)
cause_of phase StepFault.Memory = None

-- Why a run stops after all phases that it may perform: only if it is below the horizon.
abbrev pub stop_after : Bool → ℕ → Option (Cause ℚ)
stop_after below made = if below then Some (Cause.Phases made) else None

-- The report of a solution.
abbrev pub solution_report : ℚ → Solution → Report
solution_report horizon s = record { horizon = horizon; flow = seen_flow s.flow; stop = s.stopped; last = s.last }

-- Every phase sequence to the horizon with as many phases ends with the departure and the labels reached.
abbrev pub EndsAll : Network → ℚ → Standing → Type 0
EndsAll net horizon last = (phases : List (ℚ × List ℚ)) → IsPhaseSequence net horizon phases → length phases ≡ suc last.made
    → slice_get phases last.made ≡ Some (reached_by last)

-- The report describes a flow that is an equilibrium up to the departure reached. It is the report of the phase run, so it reaches the
-- horizon or has the cause that stopped the run. The run has `phases` phases, and its labels are the last values of the label curves. The
-- curves are in short form, and end at the departure reached or at the labels there.
pub record IsRunSolution (net : Network) (bounds : Bounds) (phases : ℕ) (report : Report) : Type 0 where
  pub well_formed : IsWellFormed net report
  pub equilibrium : Equilibrium net report.flow
  pub run : IsRunReport passes_Q net bounds report
  pub made : run.last.made ≡ phases
  pub ends : EndsAll net bounds.horizon run.last
  pub labels : KeepsLabels net run.last
  pub short : IsShortFlow net report.flow
  pub curves_end : EndsAtItsLabels net report.flow

-- The run went from state `first` to the horizon, or to the cause that stopped it, with `phases` phases since it was restored. The report
-- describes a flow that is an equilibrium up to the departure reached. Its curves are in short form, and end at that departure or at the
-- labels there.
pub record IsFinished (net : Network) (bounds : Bounds) (first : Standing) (phases : ℕ) (report : Report) : Type 0 where
  pub last : Standing
  pub stop : Option (Cause ℚ)
  pub runs : RunsOn passes_Q net bounds first last stop
  pub made : last.made ≡ phases
  pub report_is : report ≡ report_of bounds.horizon last stop
  pub well_formed : IsWellFormed net report
  pub equilibrium : Equilibrium net report.flow
  pub short : IsShortFlow net report.flow
  pub curves_end : EndsAtItsLabels net report.flow
