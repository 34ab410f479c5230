use Rattle.nf_forever.proofs.Common.{passes_Q, end_in}
use Rattle.nf_forever.proofs.Told.{run_answered, form_answered, equilibrium_answered, tail_answered, grows_answered, stop_answered}
use Rattle.nf_forever.proofs.solving.solve_forever.Goals as goal

pub returns-clause-run : goal.returns-clause-run
returns-clause-run c =
    run_answered passes_Q c.args.net.now.net c.recall.ensures.network c.args.budgets.phases c.args.budgets.patterns c.go.new.run (end_in c.in_ok-end.end) c.in_ok-end.ensures
    c.outcome.result c.outcome.ensures

pub returns-clause-form : goal.returns-clause-form
returns-clause-form c =
    form_answered passes_Q c.args.net.now.net c.recall.ensures.network c.args.budgets.phases c.args.budgets.patterns c.go.new.run (end_in c.in_ok-end.end) c.in_ok-end.ensures
    c.outcome.result c.outcome.ensures

pub returns-clause-equilibrium : goal.returns-clause-equilibrium
returns-clause-equilibrium c =
    equilibrium_answered passes_Q c.args.net.now.net c.recall.ensures.network c.args.budgets.phases c.args.budgets.patterns c.go.new.run (end_in c.in_ok-end.end) c.in_ok-end.ensures
    c.outcome.result c.outcome.ensures

pub returns-clause-tail : goal.returns-clause-tail
returns-clause-tail c =
    tail_answered passes_Q c.args.net.now.net c.recall.ensures.network c.args.budgets.phases c.args.budgets.patterns c.go.new.run (end_in c.in_ok-end.end) c.in_ok-end.ensures
    c.outcome.result c.outcome.ensures

pub returns-clause-grows : goal.returns-clause-grows
returns-clause-grows c =
    grows_answered passes_Q c.args.net.now.net c.recall.ensures.network c.args.budgets.phases c.args.budgets.patterns c.go.new.run (end_in c.in_ok-end.end) c.in_ok-end.ensures
    c.outcome.result c.outcome.ensures

pub returns-clause-stop : goal.returns-clause-stop
returns-clause-stop c =
    stop_answered passes_Q c.args.net.now.net c.recall.ensures.network c.args.budgets.phases c.args.budgets.patterns c.go.new.run (end_in c.in_ok-end.end) c.in_ok-end.ensures
    c.outcome.result c.outcome.ensures
