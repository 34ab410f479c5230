-- What every call of `run` promises, for all words, every shelf and every two sinks.
use Rattle.nf_app.specs.Runs.{Run, Ran}
use Rattle.nf_app.specs.Solves.{SolvesTold}
use Rattle.nf_app.specs.Only.{ShowsOnlyThat}
use Rattle.nf_app.specs.Completeness.{IsComplete}
use Rattle.nf_app.specs.Output.{OutputFails}
use Rattle.nf_app.specs.Stops.{AlwaysHasPattern}
use Rattle.nf_app.specs.Uniqueness.{AnswerIsSameInAll}
use Rattle.nf_app.specs.LongRun.{LongRun}
use Rattle.nf_app.specs.Resumption.{ComputesReportOfOneRun, WritesReportOfOneRun}
use Rattle.nf_app.specs.Chained.{SaysYes, ResumesSolvedText}

-- A file is known if the shelf tells its bytes, as a shelf in memory does. The statuses 1, 3 and 9 mean that an allocation, the shelf or
-- `out` failed.
pub record Promises (run : Run) : Type 0 where
  -- Asked to solve a known, accepted file, and with a status other than 1, 3 and 9, `out` took a report whose flow is an equilibrium up to
  -- the departure reached. The status is 0 exactly if that is the horizon, and else that of the cause.
  pub solves : SolvesTold run
  -- The call has an answer, and the status, `out` and `err` show it.
  pub ran : Ran run
  -- If all files of the request are known, the words have one answer, and the call shows it; or an allocation or the shelf failed.
  pub only : ShowsOnlyThat run
  -- If these files are also well formed, and neither the shelf nor `out` fails, the command ends as its row of `endings` says.
  pub complete : IsComplete run
  -- The call counted one fault of `out` if the status is 9, and none with any other status.
  pub output : OutputFails run
  -- No run stops because no pattern is left, and the status is never 8.
  pub never_no_pattern : AlwaysHasPattern run
  -- Every equilibrium of the network has the labels, queues and exits of the answer's flow, as far as both describe departures.
  pub same_in_all : AnswerIsSameInAll run
  -- The static cuts of the network determine how fast the label of the sink grows in the long run, in every equilibrium. If all equilibria
  -- are steady from one departure on, a run that passes it reaches its horizon, and without a horizon no phase but the tail passes it.
  pub long_run : LongRun run
  -- Let `resume` be given the report of a run, and let it and one run from the start reach the horizon. Its report is then that of the one
  -- run, unless an operation exceeds the bound in the search for the remainder of a phase.
  pub one_run : ComputesReportOfOneRun run
  -- If the files are known and the status is 0, `resume` then writes the text of that report.
  pub resumes : WritesReportOfOneRun run
  -- `check` says yes of each known text that a call of `solve` wrote, unless an operation exceeds the bound, or an allocation, the shelf or
  -- `out` fails.
  pub says_yes : SaysYes run
  -- Let one call of `solve` write a text, and another one, with status 0, the text to a later horizon. If `resume` of the first text to
  -- that horizon has status 0, it writes the second text, on the premise of `one_run`.
  pub resumes_solved : ResumesSolvedText run
