-- What a call of `solve` with a known network file writes.
use Rattle.std.proofs.Common.{◌≡◌, ℕ, List, refl, sym, ◌∙◌, ap, subst, inl, inr, Option, Some, None}
use Rattle.nf_app.proofs.Common.{ℚ, Cause, Named, Report, Bounds, Solve, Status, ProgramAnswer, status_of, status_of_stop, out_text, TookAll, IsShown}
use Rattle.nf_app.proofs.Common.{IsShownWhole, bounds_to, SolveAnswer, Call, Run, Ran, ToldRequest}
use Rattle.nf_app.specs.Solves.{AsksToSolve, HasAnswered, IsSolvedRun, SolvesTold}
use Rattle.nf_app.proofs.ToldRequests.{Answers, told_answers}

-- a run has status 0 only without a stop
pub no_stop : (stop : Option (Cause ℚ)) → status_of_stop stop ≡ Status.Ok → stop ≡ None
no_stop None e = refl
no_stop (Some (Cause.Phases made)) e = cc
no_stop (Some (Cause.Patterns phase tried)) e = cc
no_stop (Some (Cause.Passed phase place at)) e = cc
no_stop (Some (Cause.NoPattern phase)) e = cc

pub told_solve : (call : Call) (asked : AsksToSolve call) → ToldRequest call
told_solve call asked = record {
  request = Solve asked.file asked.horizon asked.phases asked.patterns;
  asks = asked.asks;
  texts = record { network = Some asked.text; second = None };
  told = record { network = asked.told; second = refl };
  fit = record { network = asked.within; second = tt };
  net = asked.net;
  reads = asked.reads;
  second_reads = tt;
}

module _ (run : Run) (n : Named) (bounds : Bounds) (answer : ProgramAnswer) (shown : IsShownWhole answer run.out run.err run.status) (g : SolveAnswer n bounds answer) where
  horizon_is : g.report.horizon ≡ bounds.horizon
  horizon_is = ap (λ (r : Report). r.horizon) g.run.report_is

  status_is : run.status ≡ status_of_stop g.report.stop
  status_is = shown.status_is ∙ ap status_of g.is

  reached_if : run.status ≡ Status.Ok → g.report.flow.reached ≡ bounds.horizon
  reached_if e = g.well_formed.stop.0 (no_stop g.report.stop (sym status_is ∙ e)) ∙ horizon_is

  ok_if : g.report.flow.reached ≡ bounds.horizon → run.status ≡ Status.Ok
  ok_if e = status_is ∙ ap status_of_stop (g.well_formed.stop.1 (e ∙ sym horizon_is))

  solved : IsSolvedRun run n bounds
  solved = record {
    report = g.report;
    took = subst (λ (text : List ℕ). TookAll run.out text) (ap out_text g.is) shown.took.all;
    one = g.reads_back;
    well_formed = g.well_formed;
    horizon = horizon_is;
    equilibrium = g.equilibrium;
    reached = (reached_if, ok_if);
    status = status_is;
    phase_run = g.run;
  }

module _ (run : Run) (asked : AsksToSolve run.call) (has : HasAnswered run.status) where
  by_answer : (answer : ProgramAnswer) → IsShownWhole answer run.out run.err run.status → Answers run.call (told_solve run.call asked) answer
      → IsSolvedRun run asked.net (bounds_to asked.horizon asked.phases asked.patterns)
  unfolding told_solve
  by_answer answer shown (inl none) = absurd (has.not_memory (shown.status_is ∙ ap status_of none))
  by_answer answer shown (inr (inl h)) = absurd (has.not_shelf (shown.status_is ∙ h.0))
  by_answer answer shown (inr (inr h)) = solved run asked.net (bounds_to asked.horizon asked.phases asked.patterns) answer shown h.1

  by_shown : (ran : Ran run) → IsShown ran.answer run.out run.err run.status → IsSolvedRun run asked.net (bounds_to asked.horizon asked.phases asked.patterns)
  by_shown ran (inl h) = by_answer ran.answer h (told_answers run.call (told_solve run.call asked) ran.answer ran.comes)
  by_shown ran (inr h) = absurd (has.not_output h.status_is)

pub solves_told : (run : Run) → Ran run → SolvesTold run
solves_told run ran asked has = by_shown run asked has ran ran.shown
