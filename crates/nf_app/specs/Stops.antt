-- No run that an answer tells of stopped since no pattern was left.
use Rattle.std.specs.Prelude.{◌≡◌, Option, Some, None}
use Rattle.nf_rational.specs.Rational.{ℚ}
use Rattle.nf_net_def.specs.declared.Cause.{Cause}
use Rattle.nf_phase_run_laws.specs.Stops.{NeverNoPattern}
use Rattle.nf_app_answers.specs.declared.arrival.Arrival.{Arrival}
use Rattle.nf_app_answers.specs.declared.status.Status.{Status}
use Rattle.nf_app_answers.specs.Answers.{ProgramAnswer, Solved, SolvedForever, Quickest, Generated}
use Rattle.nf_app.specs.Runs.{Run, MayAnswer}

-- the cause that stopped the run to the departure, if one did
abbrev pub stop_of_arrival : Arrival → Option (Cause ℚ)
stop_of_arrival Arrival.Never = None
stop_of_arrival (Arrival.At time) = None
stop_of_arrival (Arrival.Stopped cause) = Some cause

-- the cause that stopped the run of an answer, if one did: of a report, of a run without a horizon, of a summary, or of the arrival beside
-- a quickest flow
abbrev pub stop_in : ProgramAnswer → Option (Cause ℚ)
stop_in (Solved n report) = report.stop
stop_in (SolvedForever n forever) = forever.stop
stop_in (Generated number rungs n made report) = report.stop
stop_in (Quickest n quick arrival) = stop_of_arrival arrival
stop_in answer = None

-- of each answer that the call may give, and of its status
pub record AlwaysHasPattern (run : Run) : Type 0 where
  pub stops : (answer : ProgramAnswer) → MayAnswer run.call answer → NeverNoPattern (stop_in answer)
  pub not_status : run.status ≡ Status.NoPattern → ⊥
