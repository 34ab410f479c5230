-- The headline: what a call of `solve` with a known network file writes.
use Rattle.std.specs.Prelude.{◌≡◌, ◌≢◌, ◌↔◌, ℕ, ◌≤◌, List, length, Some, Ok}
use Rattle.nf_rational.specs.Rational.{ℚ}
use Rattle.nf_frac_def.specs.Passing.{passes_Q}
use Rattle.nf_model.specs.Equilibrium.{Equilibrium}
use Rattle.nf_net_def.specs.Named.{Named}
use Rattle.nf_net_def.specs.NetFile.{Reads}
use Rattle.nf_net_def.specs.Report.{Report, IsWellFormed, report_text}
use Rattle.nf_thin_def.specs.PhaseRun.{Bounds, IsRunReport}
use Rattle.nf_phase_run_laws.specs.ReadableLaws.{ReadsBack}
use Rattle.nf_app_answers.specs.declared.status.Status.{Status}
use Rattle.nf_app_answers.specs.Answers.{status_of_stop}
use Rattle.nf_app_files.specs.Files.{input_limit}
use Rattle.nf_app_files.specs.Sinks.{TookAll}
use Rattle.nf_app_words.specs.Requests.{Solve}
use Rattle.nf_app.specs.Requests.{bounds_to}
use Rattle.nf_app.specs.Runs.{Call, Run, Asks}

-- the words ask `solve`, and the bytes of the file are known, within the limit, and those of this network
pub record AsksToSolve (call : Call) : Type 0 where
  pub file : List ℕ
  pub horizon : ℚ
  pub phases : ℕ
  pub patterns : ℕ
  pub asks : Asks call (Solve file horizon phases patterns)
  pub text : List ℕ
  pub told : call.shelf.told file ≡ Some text
  pub within : length text ≤ input_limit
  pub net : Named
  pub reads : Reads text (Ok net)

-- the status names no failed allocation, no failed shelf and no failed output
pub record HasAnswered (status : Status) : Type 0 where
  pub not_memory : status ≢ Status.Memory
  pub not_shelf : status ≢ Status.Shelf
  pub not_output : status ≢ Status.Output

-- The output took the text of one report, to this horizon. Its flow is an equilibrium up to the departure reached. The status is Ok exactly
-- if that is the horizon; otherwise it is that of the cause that stopped the phase run.
pub record IsSolvedRun (run : Run) (n : Named) (bounds : Bounds) : Type 0 where
  pub report : Report
  pub took : TookAll run.out (report_text n report)
  pub one : ReadsBack n report
  pub well_formed : IsWellFormed n.net report
  pub horizon : report.horizon ≡ bounds.horizon
  pub equilibrium : Equilibrium n.net report.flow
  pub reached : (run.status ≡ Status.Ok) ↔ (report.flow.reached ≡ bounds.horizon)
  pub status : run.status ≡ status_of_stop report.stop
  pub phase_run : IsRunReport passes_Q n.net bounds report

abbrev pub SolvesTold : Run → Type 0
SolvesTold run = (asked : AsksToSolve run.call) → HasAnswered run.status
    → IsSolvedRun run asked.net (bounds_to asked.horizon asked.phases asked.patterns)
