-- When the status is that of a failed output.
use Rattle.std.specs.Prelude.{◌≡◌, ℕ}
use Rattle.nf_edge.specs.Faults.{one_more}
use Rattle.nf_app_answers.specs.declared.status.Status.{Status}
use Rattle.nf_app.specs.Runs.{Run}

-- the count of faults after a call with this status: one more if the output failed, else the same
abbrev pub faults_after : Status → ℕ → ℕ
faults_after Status.Output before = one_more before
faults_after status before = before

-- The call counted one fault of `out` if the status is that of a failed output, and none with any other status.
abbrev pub OutputFails : Run → Type 0
OutputFails run = run.out.faults_now ≡ faults_after run.status run.out.faults_before
