use Rattle.std.proofs.Common.{◌≡◌, ℕ, List, length, sym, ap, subst, ◌∙◌, arith, map, Err}
use Rattle.nf_app.proofs.Common.{length-map, err_from_is_err_and, seen_trace, report_in, IfBroken, seen_report}
use Rattle.nf_app.proofs.CheckResult.{report_refused, checking_stopped, verdict_given}
use Rattle.nf_app.proofs.answering.check_report.Goals as goal

pub parse_report-requires : goal.parse_report-requires
parse_report-requires c = omega (arith, c.requires, ap (λ (l : List ℕ). length l) c.deref.ensures.value)

pub check-requires-clause-labels : goal.check-requires-clause-labels
check-requires-clause-labels c =
    sym (length-map c.in_ok-report.report.flow.labels.items (λ curve. curve.points)) ∙ c.in_ok-report.ensures.formed.shape.labels.count

pub check-requires-clause-inflows : goal.check-requires-clause-inflows
check-requires-clause-inflows c =
    sym (length-map c.in_ok-report.report.flow.inflows.items seen_trace) ∙ sym (length-map (map seen_trace c.in_ok-report.report.flow.inflows.items) (λ trace. trace.points))
    ∙ c.in_ok-report.ensures.formed.shape.inflows.count

pub check-requires-clause-outflows : goal.check-requires-clause-outflows
check-requires-clause-outflows c =
    sym (length-map c.in_ok-report.report.flow.outflows.items seen_trace) ∙ sym (length-map (map seen_trace c.in_ok-report.report.flow.outflows.items) (λ trace. trace.points))
    ∙ c.in_ok-report.ensures.formed.shape.outflows.count

pub check-requires-clause-queues : goal.check-requires-clause-queues
check-requires-clause-queues c =
    sym (length-map c.in_ok-report.report.flow.queues.items (λ curve. curve.points)) ∙ c.in_ok-report.ensures.formed.shape.queues.count

pub check-requires-clause-inflow_rates : goal.check-requires-clause-inflow_rates
check-requires-clause-inflow_rates c = c.in_ok-report.ensures.formed.inflow_rates

pub check-requires-clause-outflow_rates : goal.check-requires-clause-outflow_rates
check-requires-clause-outflow_rates c = c.in_ok-report.ensures.formed.outflow_rates

pub check-requires-clause-reached : goal.check-requires-clause-reached
check-requires-clause-reached c = c.in_ok-report.ensures.formed.reached

pub returns-in_err-report : goal.returns-in_err-report
returns-in_err-report c file name =
    let p = err_from_is_err_and c.from_residual.result c.from_residual.ensures.1 in
    rw (p.1, p.2) (report_refused c.args.net.now c.recall.ensures file name c.args.text.items c.in_err-report.field-0.0
    (subst (λ (l : List ℕ). IfBroken c.in_err-report.field-0.0 (λ broken. report_in c.args.net.now l ≡ Err broken)) c.deref.ensures.value c.in_err-report.ensures.reads))

pub returns-in_err-verdict : goal.returns-in_err-verdict
returns-in_err-verdict c file name =
    let p = err_from_is_err_and c.from_residual-in_err-verdict.result c.from_residual-in_err-verdict.ensures.1 in
    rw (p.1, p.2) (checking_stopped c.args.net.now c.recall.ensures file name c.args.text.items (seen_report c.in_ok-report.report)
    (ap (report_in c.args.net.now) (sym c.deref.ensures.value) ∙ c.in_ok-report.ensures.reads) c.in_err-verdict.field-0.0 c.in_err-verdict.ensures.list)

pub returns : goal.returns
returns c file name = (
  verdict_given c.args.net.now c.recall.ensures file name c.args.text.items (seen_report c.in_ok-report.report)
      (ap (report_in c.args.net.now) (sym c.deref.ensures.value) ∙ c.in_ok-report.ensures.reads) c.in_ok-verdict.verdict c.in_ok-verdict.ensures.list
      c.in_ok-verdict.ensures.rules c.in_ok-verdict.ensures.exact,
  tt,
)
