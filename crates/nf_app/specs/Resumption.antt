-- A run that resumes a report to where one run from the start comes too.
use Rattle.std.specs.Prelude.{◌≡◌, ℕ, List, None, Ok}
use Rattle.nf_rational.specs.Rational.{ℚ}
use Rattle.nf_frac_def.specs.Passing.{passes_Q}
use Rattle.nf_net_def.specs.Named.{Named}
use Rattle.nf_net_def.specs.Report.{Report, report_text}
use Rattle.nf_thin_def.specs.PhaseRun.{Bounds, IsRunReport}
use Rattle.nf_report_def.specs.ReportFile.{report_in}
use Rattle.nf_phase_run_laws.specs.ResumedLaws.{RestFits}
use Rattle.nf_phase.specs.declared.solution.Budgets.{Budgets}
use Rattle.nf_app_words.specs.Requests.{Request, Resume}
use Rattle.nf_app_answers.specs.declared.status.Status.{Status}
use Rattle.nf_app_answers.specs.Answers.{ProgramAnswer, Solved}
use Rattle.nf_app_files.specs.Sinks.{TookAll}
use Rattle.nf_app.specs.Requests.{bounds_to}
use Rattle.nf_app.specs.Runs.{Call, Run, IsComputed}
use Rattle.nf_app.specs.Told.{second_bytes}
use Rattle.nf_app.specs.Completeness.{ReachesHorizon, ToldRequest}

-- ---- the report that was read in this call
-- A text is the report of a run of the network, to any horizon, within any budgets, whatever stopped it. One run from the start, within
-- budgets of its own, reaches the horizon of `resume`. If the first run ended mid-phase, no operation of a table or verdict list exceeds
-- the bound in the search for the remainder of that phase.
pub record ResumesRun (n : Named) (text : List ℕ) (bounds : Bounds) : Type 0 where
  pub old : Report
  pub reads : report_in n text ≡ Ok old
  pub first_bounds : Bounds
  pub first : IsRunReport passes_Q n.net first_bounds old
  pub later_budgets : Budgets
  pub later : ReachesHorizon n bounds.horizon later_budgets
  pub rest : RestFits passes_Q n.net bounds first.last

-- Then the new report is that of the one run, if it isn't stopped.
abbrev pub ReportIsOfOneRun : Named → List ℕ → Bounds → Report → Type 0
ReportIsOfOneRun n text bounds new = (r : ResumesRun n text bounds) → new.stop ≡ None → new ≡ r.later.report

-- `ReportIsOfOneRun` for every `Solved` answer to `resume`; trivial for other requests
abbrev pub AnswerIsOfOneRun : Named → List ℕ → Request → ProgramAnswer → Type 0
AnswerIsOfOneRun n text (Resume file name horizon phases patterns) answer =
    (new : Report) → answer ≡ Solved n new → ReportIsOfOneRun n text (bounds_to horizon phases patterns) new
AnswerIsOfOneRun n text request answer = Unit {0}

-- whichever answer is computed from the text that was read in this call
abbrev pub ComputesReportOfOneRun : Run → Type 0
ComputesReportOfOneRun run = (answer : ProgramAnswer) (c : IsComputed run.call answer) → AnswerIsOfOneRun c.net c.second c.request answer

-- ---- a report that is known to proofs: the same of the bytes that are written
pub record AsksToResumeRun (call : Call) : Type 0 where
  pub told : ToldRequest call
  pub file : List ℕ
  pub report_name : List ℕ
  pub horizon : ℚ
  pub phases : ℕ
  pub patterns : ℕ
  pub is : told.request ≡ Resume file report_name horizon phases patterns
  pub resumes : ResumesRun told.net (second_bytes told.texts) (bounds_to horizon phases patterns)

abbrev pub WritesReportOfOneRun : Run → Type 0
WritesReportOfOneRun run = (r : AsksToResumeRun run.call) → run.status ≡ Status.Ok
    → TookAll run.out (report_text r.told.net r.resumes.later.report)
