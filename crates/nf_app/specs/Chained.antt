-- Calls of `check` and `resume` after calls of `solve`.
use Rattle.std.specs.Prelude.{◌≡◌, ◌⊎◌, ℕ, ◌≤◌, List, [], ◌∷◌, length, Some, Ok, codes}
use Rattle.nf_rational.specs.Rational.{ℚ}
use Rattle.nf_frac_def.specs.Passing.{passes_Q}
use Rattle.nf_text_def.specs.Words.{line_of_words}
use Rattle.nf_net_def.specs.Named.{Named}
use Rattle.nf_net_def.specs.NetFile.{Reads}
use Rattle.nf_net_def.specs.Report.{Report}
use Rattle.nf_thin_def.specs.PhaseRun.{IsRunReport}
use Rattle.nf_phase_run_laws.specs.ResumedLaws.{RestFits}
use Rattle.nf_app_answers.specs.declared.status.Status.{Status}
use Rattle.nf_app_files.specs.Files.{Visit, input_limit, report_limit}
use Rattle.nf_app_files.specs.Sinks.{TookAll}
use Rattle.nf_app_words.specs.Requests.{Solve, Check, Resume}
use Rattle.nf_app.specs.Requests.{bounds_to}
use Rattle.nf_app.specs.Runs.{Call, Run, Asks, Ran, NoFault, IsOneOf}

-- A call of `solve` wrote a report. Its shelf has the same known bytes of the network's file. Its output, whose bytes are known, took this
-- text: the report to the horizon, or to the stop of the phase run.
pub record WroteReport (shelf : Visit) (file text : List ℕ) : Type 0 where
  pub run : Run
  pub ran : Ran run
  pub horizon : ℚ
  pub phases : ℕ
  pub patterns : ℕ
  pub asks : Asks run.call (Solve file horizon phases patterns)
  pub ended : IsOneOf run.status (Status.Ok ∷ Status.Phases ∷ Status.Patterns ∷ Status.Passed ∷ [])
  pub told : run.call.shelf.told file ≡ shelf.told file
  pub before : List ℕ
  pub tells : run.out.before ≡ Some before
  pub took : TookAll run.out text

-- a file whose bytes are known, and are these, within its limit
pub record HasKnownBytes (shelf : Visit) (name : List ℕ) (limit : ℕ) : Type 0 where
  pub text : List ℕ
  pub told : shelf.told name ≡ Some text
  pub within : length text ≤ limit

-- ---- `check` of what `solve` wrote
pub record ChecksSolved (call : Call) : Type 0 where
  pub file : List ℕ
  pub report_name : List ℕ
  pub asks : Asks call (Check file report_name)
  pub network : HasKnownBytes call.shelf file input_limit
  pub report : HasKnownBytes call.shelf report_name report_limit
  pub solved : WroteReport call.shelf file report.text

-- the answer is `yes`, unless an operation exceeds the bound or an allocation fails
abbrev pub SaysYes : Run → Type 0
SaysYes run = ChecksSolved run.call → NoFault run
    → ((run.status ≡ Status.Ok) × TookAll run.out (line_of_words (codes "yes" ∷ []))) ⊎ (run.status ≡ Status.Passed)
    ⊎ (run.status ≡ Status.Memory)

-- ---- `resume` of what `solve` wrote
-- One call of `solve` wrote the text to be resumed. A second one reached the horizon of `resume` and wrote the later text. If the first
-- run ended mid-phase, no operation of a table or verdict list exceeds the bound in the search for the remainder of that phase.
pub record ResumesSolved (call : Call) : Type 0 where
  pub file : List ℕ
  pub report_name : List ℕ
  pub horizon : ℚ
  pub phases : ℕ
  pub patterns : ℕ
  pub asks : Asks call (Resume file report_name horizon phases patterns)
  pub network : HasKnownBytes call.shelf file input_limit
  pub report : HasKnownBytes call.shelf report_name report_limit
  pub net : Named
  pub reads : Reads network.text (Ok net)
  pub first : WroteReport call.shelf file report.text
  pub later_text : List ℕ
  pub later : WroteReport call.shelf file later_text
  pub to_horizon : later.horizon ≡ horizon
  pub whole : later.run.status ≡ Status.Ok
  pub rest : (old : Report) (run : IsRunReport passes_Q net.net (bounds_to first.horizon first.phases first.patterns) old)
      → RestFits passes_Q net.net (bounds_to horizon phases patterns) run.last

-- then `resume` with status 0 writes, byte for byte, the later text
abbrev pub ResumesSolvedText : Run → Type 0
ResumesSolvedText run = (r : ResumesSolved run.call) → run.status ≡ Status.Ok → TookAll run.out r.later_text
