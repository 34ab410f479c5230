use Rattle.std.proofs.Common.{◌≡◌, ℕ, List, length, sym, ap, subst, ◌∙◌, arith, Err}
use Rattle.nf_app.proofs.Common.{err_from_is_err_and, IfBroken, seen_report, bounds_of, solution_report}
use Rattle.nf_phase_run_laws.proofs.Reading.{resumed_reads_back}
use Rattle.nf_report_def.specs.ReportFile as reports
use Rattle.nf_app.proofs.Reports.{a_report}
use Rattle.nf_app.proofs.ResumeResult.{old_refused, gone_on_given}
use Rattle.nf_app.proofs.answering.resume_to.Goals as goal

pub parse_report-requires : goal.parse_report-requires
parse_report-requires c = omega (arith, c.requires, ap (λ (l : List ℕ). length l) c.deref.ensures.value)

pub resume-requires : goal.resume-requires
resume-requires c = c.in_ok-report.ensures.formed

pub returns-in_err-report : goal.returns-in_err-report
returns-in_err-report c file name =
    let p = err_from_is_err_and c.from_residual.result c.from_residual.ensures.1 in
    rw (p.1, p.2) (old_refused c.args.net.now file name c.args.text.items c.args.horizon c.args.budgets.phases c.args.budgets.patterns c.recall.ensures c.in_err-report.field-0.0
    (subst (λ (l : List ℕ). IfBroken c.in_err-report.field-0.0 (λ broken. reports.report_in c.args.net.now l ≡ Err broken)) c.deref.ensures.value c.in_err-report.ensures.reads))

pub returns-in-Ok : goal.returns-in-Ok
returns-in-Ok c file name =
    let e = c.in-Ok.ensures in
    let s = c.in-Ok.solution in
    let bounds = bounds_of c.args.horizon c.args.budgets in
    let old = seen_report c.in_ok-report.report in
    let reads = ap (reports.report_in c.args.net.now) (sym c.deref.ensures.value) ∙ c.in_ok-report.ensures.reads in
    let new = solution_report c.args.horizon s in (
      gone_on_given c.args.net.now file name c.args.text.items c.args.horizon c.args.budgets.phases c.args.budgets.patterns old
          (a_report c.args.net.now c.recall.ensures c.args.text.items old reads) new s.phases
          e.not_earlier e.resumed e.formed e.equilibrium e.goes_on e.short e.ends
          (resumed_reads_back c.args.net.now c.recall.ensures bounds
          (record {
            horizon = c.recall-2.ensures;
            phases = omega arith;
            patterns = omega arith;
          })
          old s.phases new c.args.text.items reads e.formed e.resumed),
      e.formed,
    )

pub returns : goal.returns
returns c file name =
    let old = seen_report c.in_ok-report.report in
    let reads = ap (reports.report_in c.args.net.now) (sym c.deref.ensures.value) ∙ c.in_ok-report.ensures.reads in
    c.refuse_resume.ensures c.args.net.now file name c.args.text.items c.args.horizon c.args.budgets.phases c.args.budgets.patterns old
    (a_report c.args.net.now c.recall.ensures c.args.text.items old reads) c.in-Err.ensures.fault
