-- A fault of the output gives its own status, which no answer has.
use Rattle.std.proofs.Common.{◌≡◌, ℕ, refl, sym, ◌∙◌, ap, inl, inr, Option, Some, None}
use Rattle.nf_app.proofs.Common.{ℚ, Cause, Yes, No, Status, ProgramAnswer, Solved, SolvedForever, Shown, Loaded, Checked, Quickest, TooManyWalks, Generated}
use Rattle.nf_app.proofs.Common.{Settled, Distributed, NoMemory, NoRequest, ShelfFailed, ShelfTooLong, Malformed, MalformedLoads, MalformedFlows}
use Rattle.nf_app.proofs.Common.{MalformedRoutes, MalformedReport, Passes, Unbounded, NotThin, Earlier, status_of, status_of_stop, status_of_forever}
use Rattle.nf_app.proofs.Common.{status_of_verdict, IsShown, Run, Ran}
use Rattle.nf_check_def.specs.declared.Answer.{Answer as Verdict}
use Rattle.nf_app.specs.Output.{faults_after, OutputFails}

-- ---- with the status of an answer no fault is counted
module _ (before : ℕ) where
  by_stop : (stop : Option (Cause ℚ)) → faults_after (status_of_stop stop) before ≡ before
  by_stop None = refl
  by_stop (Some (Cause.Phases made)) = refl
  by_stop (Some (Cause.Patterns phase tried)) = refl
  by_stop (Some (Cause.Passed phase place at)) = refl
  by_stop (Some (Cause.NoPattern phase)) = refl

  by_forever : (stop : Option (Cause ℚ)) → faults_after (status_of_forever stop) before ≡ before
  by_forever None = refl
  by_forever (Some (Cause.Phases made)) = refl
  by_forever (Some (Cause.Patterns phase tried)) = refl
  by_forever (Some (Cause.Passed phase place at)) = refl
  by_forever (Some (Cause.NoPattern phase)) = refl

  by_verdict : (verdict : Verdict ℕ ℕ ℚ) → faults_after (status_of_verdict verdict) before ≡ before
  by_verdict Yes = refl
  by_verdict (No rule subject time left right) = refl

  none_after : (answer : ProgramAnswer) → faults_after (status_of answer) before ≡ before
  none_after (Solved n report) = by_stop report.stop
  none_after (SolvedForever n forever) = by_forever forever.stop
  none_after (Generated number rungs n made report) = by_stop report.stop
  none_after (Checked n verdict) = by_verdict verdict
  none_after (Shown n) = refl
  none_after (Loaded n horizon loaded) = refl
  none_after (Quickest n quick arrival) = refl
  none_after (TooManyWalks n augments walks) = refl
  none_after (Settled n pattern flows) = refl
  none_after (Distributed n routes horizon routed) = refl
  none_after NoMemory = refl
  none_after NoRequest = refl
  none_after ShelfFailed = refl
  none_after ShelfTooLong = refl
  none_after (Malformed broken) = refl
  none_after (MalformedLoads broken) = refl
  none_after (MalformedFlows broken) = refl
  none_after (MalformedRoutes broken) = refl
  none_after (MalformedReport broken) = refl
  none_after (Passes at) = refl
  none_after Unbounded = refl
  none_after NotThin = refl
  none_after Earlier = refl

-- ---- a whole run
after_status : (run : Run) (status : Status) → run.status ≡ status → run.out.faults_now ≡ faults_after status run.out.faults_before → OutputFails run
after_status run status is counted = counted ∙ ap (λ (s : Status). faults_after s run.out.faults_before) (sym is)

fails_so : (run : Run) (answer : ProgramAnswer) → IsShown answer run.out run.err run.status → OutputFails run
fails_so run answer (inl h) = after_status run (status_of answer) h.status_is (h.took.no_fault ∙ sym (none_after run.out.faults_before answer))
fails_so run answer (inr h) = after_status run Status.Output h.status_is h.took.cause

pub output_fails : (run : Run) → Ran run → OutputFails run
output_fails run ran = fails_so run ran.answer ran.shown
