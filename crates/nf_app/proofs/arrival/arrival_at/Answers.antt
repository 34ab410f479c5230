use Rattle.std.proofs.Common.{◌≡◌, ℕ, ◌<◌, ap, sym, subst, ◌∙◌, Some, None}
use Rattle.nf_app.proofs.Common.{option_copied, bounds_of, solution_report, IsRunSolution}
use Rattle.nf_phase.specs.declared.solution.Budgets.{Budgets}
use Rattle.nf_app.proofs.QuickTold.{sink_in, at_sink, stopped_arrives, reached_arrives}
use Rattle.nf_app.proofs.arrival.arrival_at.Goals as goal

pub last_label-requires : goal.last_label-requires
last_label-requires c =
    sink_in c.args.net.now.net c.in_ok-solution.solution.flow c.sink.result c.sink.ensures.node c.in_ok-solution.ensures.solution.well_formed.shape.labels.count

pub returns-in-Some : goal.returns-in-Some
returns-in-Some c =
    let s = c.in_ok-solution.solution in
    let copied = c.as_ref.ensures.value in
    let there = ap option_copied c.in-Some.is in
    let stopped : s.stopped ≡ Some c.in-Some.stop.now = sym copied ∙ there in
    stopped_arrives c.args.net.now.net c.recall.ensures.network c.args.departs (solution_report c.args.departs s) s.phases
    (subst (λ (b : Budgets). IsRunSolution c.args.net.now.net (bounds_of c.args.departs b) s.phases (solution_report c.args.departs s))
    c.usual_budgets-budgets.ensures c.in_ok-solution.ensures.solution)
    c.in-Some.stop.now stopped

pub returns : goal.returns
returns c =
    let s = c.in_ok-solution.solution in
    let copied = c.as_ref.ensures.value in
    let none = ap option_copied c.in-None.is in
    let stopped : s.stopped ≡ None = sym copied ∙ none in
    reached_arrives c.args.net.now.net c.recall.ensures.network c.args.departs (solution_report c.args.departs s) s.phases
    (subst (λ (b : Budgets). IsRunSolution c.args.net.now.net (bounds_of c.args.departs b) s.phases (solution_report c.args.departs s))
    c.usual_budgets-budgets.ensures c.in_ok-solution.ensures.solution)
    (subst (λ (v : ℕ). v < c.args.net.now.net.nodes) c.sink.ensures.value c.sink.ensures.node) c.requires stopped c.last_label.result
    (at_sink c.in_ok-solution.solution.flow c.sink.result c.args.net.now.net.sink c.last_label.result c.sink.ensures.value c.last_label.ensures)
