-- The promises follow from an answer that the call may give, and what is shown of it.
use Rattle.nf_app.proofs.Common.{Run, Ran}
use Rattle.nf_app.specs.Promises.{Promises}
use Rattle.nf_app.proofs.Solving.{solves_told}
use Rattle.nf_app.proofs.Only.{shows_only}
use Rattle.nf_app.proofs.Completing.{complete as is_complete}
use Rattle.nf_app.proofs.Output.{output_fails}
use Rattle.nf_app.proofs.Unstopped.{always_pattern}
use Rattle.nf_app.proofs.Alike.{answered_same}
use Rattle.nf_app.proofs.LongRun.{has_long_run}
use Rattle.nf_app.proofs.Resuming.{computes_report_of_one_run, writes_report_of_one_run}
use Rattle.nf_app.proofs.Chained.{says_yes as check_says_yes, resumes_solved as resumes_solved_text}

pub derived : (run : Run) → Ran run → Promises run
derived run ran = record {
  solves = solves_told run ran;
  ran = ran;
  only = shows_only run ran;
  complete = is_complete run ran;
  output = output_fails run ran;
  never_no_pattern = always_pattern run ran;
  same_in_all = answered_same run;
  long_run = has_long_run run;
  one_run = computes_report_of_one_run run;
  resumes = writes_report_of_one_run run ran;
  says_yes = check_says_yes run ran;
  resumes_solved = resumes_solved_text run ran;
}
