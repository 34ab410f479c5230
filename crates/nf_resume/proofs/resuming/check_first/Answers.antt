use Rattle.std.proofs.Common.{map, sym, subst, ◌∙◌}
use Rattle.nf_resume.proofs.Common.{length-map, passes_Q, seen_trace, seen_report, IsCauseAtAnyHorizon}
use Rattle.nf_resume.proofs.Resumed.{check_stops, said_yes, said_equilibrium, said_no}
use Rattle.nf_resume.proofs.resuming.check_first.Goals as goal

pub check-requires-clause-labels : goal.check-requires-clause-labels
check-requires-clause-labels c = sym (length-map c.args.report.now.flow.labels.items (λ curve. curve.points)) ∙ c.requires.shape.labels.count

pub check-requires-clause-inflows : goal.check-requires-clause-inflows
check-requires-clause-inflows c =
    sym (length-map c.args.report.now.flow.inflows.items seen_trace) ∙ sym (length-map (map seen_trace c.args.report.now.flow.inflows.items)
    (λ trace. trace.points)) ∙ c.requires.shape.inflows.count

pub check-requires-clause-outflows : goal.check-requires-clause-outflows
check-requires-clause-outflows c =
    sym (length-map c.args.report.now.flow.outflows.items seen_trace) ∙ sym
    (length-map (map seen_trace c.args.report.now.flow.outflows.items) (λ trace. trace.points)) ∙ c.requires.shape.outflows.count

pub check-requires-clause-queues : goal.check-requires-clause-queues
check-requires-clause-queues c = sym (length-map c.args.report.now.flow.queues.items (λ curve. curve.points)) ∙ c.requires.shape.queues.count

pub check-requires-clause-inflow_rates : goal.check-requires-clause-inflow_rates
check-requires-clause-inflow_rates c = c.requires.inflow_rates

pub check-requires-clause-outflow_rates : goal.check-requires-clause-outflow_rates
check-requires-clause-outflow_rates c = c.requires.outflow_rates

pub check-requires-clause-reached : goal.check-requires-clause-reached
check-requires-clause-reached c = c.requires.reached

pub returns-in-Err-clause-cause : goal.returns-in-Err-clause-cause
returns-in-Err-clause-cause c =
    subst (IsCauseAtAnyHorizon passes_Q c.args.net.now.net (seen_report c.args.report.now)) (sym c.from.ensures)
    (check_stops passes_Q c.args.net.now.net (seen_report c.args.report.now) c.in-Err.halt c.in-Err.ensures.list)

pub returns-in-Ok-clause-yes : goal.returns-in-Ok-clause-yes
returns-in-Ok-clause-yes c = said_yes passes_Q c.args.net.now.net (seen_report c.args.report.now) c.in-Ok.answer c.in-Ok.ensures.list c.unless_no.result c.unless_no.ensures

pub returns-in-Ok-clause-equilibrium : goal.returns-in-Ok-clause-equilibrium
returns-in-Ok-clause-equilibrium c =
    said_equilibrium passes_Q c.args.net.now.net (seen_report c.args.report.now) c.in-Ok.answer c.in-Ok.ensures.list c.unless_no.result c.unless_no.ensures
    c.in-Ok.ensures.exact

pub returns-in-Ok-clause-cause : goal.returns-in-Ok-clause-cause
returns-in-Ok-clause-cause c =
    said_no passes_Q c.args.net.now.net (seen_report c.args.report.now) c.in-Ok.answer c.in-Ok.ensures.list c.unless_no.result c.unless_no.ensures
    c.in-Ok.ensures.rules c.in-Ok.ensures.exact
