use Rattle.std.proofs.Common.{sym, subst}
use Rattle.nf_resume.proofs.Common.{ℚ, ◌≤ℚ◌, err_from_is_err_and, passes_Q, seen_report, bounds_of, solution_report, of_halt}
use Rattle.nf_resume.proofs.Resumed.{in_time, restart_stops, is_resumed, went_on}
use Rattle.nf_resume.proofs.resuming.resume.Goals as goal

pub returns-in_err-run-clause-fault : goal.returns-in_err-run-clause-fault
returns-in_err-run-clause-fault c =
    let p = err_from_is_err_and c.from_residual-in_err-run.result c.from_residual-in_err-run.ensures.1 in
    rw (p.1, p.2) (in_time passes_Q c.args.net.now.net (seen_report c.args.report.now) c.args.horizon (of_halt c.in_err-run.field-0.0) c.if-is_earlier.ensures
    (restart_stops passes_Q c.args.net.now.net (seen_report c.args.report.now) c.in_ok-check_first.ensures.yes c.in_err-run.field-0.0 c.in_err-run.ensures.list))

pub returns-clause-resumed : goal.returns-clause-resumed
returns-clause-resumed c =
    is_resumed c.args.net.now.net (bounds_of c.args.horizon c.args.budgets) (seen_report c.args.report.now) c.in_ok-solution.solution.phases
    (solution_report c.args.horizon c.in_ok-solution.solution)
    c.in_ok-check_first.ensures.yes c.in_ok-run.run' c.in_ok-run.ensures.list c.in_ok-solution.ensures.finished

pub returns-clause-goes_on : goal.returns-clause-goes_on
returns-clause-goes_on c =
    went_on c.args.net.now.net (bounds_of c.args.horizon c.args.budgets) (seen_report c.args.report.now) c.in_ok-solution.solution.phases
    (solution_report c.args.horizon c.in_ok-solution.solution)
    c.in_ok-check_first.ensures.yes c.in_ok-run.run' c.in_ok-run.ensures.list c.in_ok-solution.ensures.finished c.recall.ensures.network c.in_ok-check_first.ensures.equilibrium

pub finish-requires-clause-horizon : goal.finish-requires-clause-horizon
finish-requires-clause-horizon c =
    let run = c.in_ok-run.ensures {u = tt} in subst (λ (t : ℚ). t ≤ℚ c.args.horizon) (sym run.time) (c.if-is_earlier.ensures {u = tt})

pub returns-clause-formed : goal.returns-clause-formed
returns-clause-formed c = let done = c.in_ok-solution.ensures {u = tt} in done.finished.well_formed

pub returns-clause-short : goal.returns-clause-short
returns-clause-short c = let done = c.in_ok-solution.ensures {u = tt} in done.finished.short

pub returns-clause-equilibrium : goal.returns-clause-equilibrium
returns-clause-equilibrium c = let done = c.in_ok-solution.ensures {u = tt} in done.finished.equilibrium

pub returns-clause-ends : goal.returns-clause-ends
returns-clause-ends c = let done = c.in_ok-solution.ensures {u = tt} in done.finished.curves_end
