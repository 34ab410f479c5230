-- The reasons why a report is not resumed.
use Rattle.std.specs.Prelude.{◌≡◌, ℕ, Ok, Err}
use Rattle.nf_rational.specs.Rational.{ℚ}
use Rattle.nf_rational.specs.Order.{◌≤ℚ◌, ◌<ℚ◌}
use Rattle.nf_frac_def.specs.Passing.{Passing}
use Rattle.nf_frac_def.specs.declared.Halt.{Halt}
use Rattle.nf_model.specs.Network.{Network}
use Rattle.nf_model.specs.Equilibrium.{Equilibrium}
use Rattle.nf_net_def.specs.Report.{Report}
use Rattle.nf_check_def.specs.declared.Answer.{Answer}
use Rattle.nf_check_def.specs.Rules.{Checks}
use Rattle.nf_check_def.specs.CheckList.{check_list}
use Rattle.nf_resume_def.specs.Resuming.{Refused, resume_list}
use Rattle.nf_resume.specs.declared.fault.ResumeFault.{ResumeFault}

abbrev pub of_halt : Halt ℚ → ResumeFault
of_halt (Halt.Passed at) = ResumeFault.Passed at
of_halt Halt.Memory = ResumeFault.Memory

-- The report's flow is no equilibrium. The check gives the answer by its rules, and `resume_list` ends there.
pub record IsRefusedReport (passes : Passing) (net : Network) (report : Report) (answer : Answer ℕ ℕ ℚ) : Type 0 where
  pub answers : check_list passes net report.flow ≡ Ok answer
  pub ends : resume_list passes net report ≡ Ok (Refused answer)
  pub rules : Checks net report.flow answer
  pub none : Equilibrium net report.flow → ⊥

-- The causes that don't depend on the horizon. An allocation failure implies nothing.
abbrev pub IsCauseAtAnyHorizon : Passing → Network → Report → ResumeFault → Type 0
IsCauseAtAnyHorizon passes net report (ResumeFault.Earlier reached) = ⊥
IsCauseAtAnyHorizon passes net report (ResumeFault.No answer) = IsRefusedReport passes net report answer
IsCauseAtAnyHorizon passes net report (ResumeFault.Passed at) = resume_list passes net report ≡ Err at
IsCauseAtAnyHorizon passes net report ResumeFault.Memory = Unit {0}

-- A horizon before the departure reached is the first cause, whatever else holds. Every other cause implies that the horizon is not before
-- it.
abbrev pub IsResumeFault : Passing → Network → Report → ℚ → ResumeFault → Type 0
IsResumeFault passes net report horizon (ResumeFault.Earlier reached) = (reached ≡ report.flow.reached) × (horizon <ℚ reached)
IsResumeFault passes net report horizon fault = (report.flow.reached ≤ℚ horizon) × IsCauseAtAnyHorizon passes net report fault
