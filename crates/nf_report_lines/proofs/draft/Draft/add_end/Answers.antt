use Rattle.std.proofs.Common.{length, ap, ◌∙◌}
use Rattle.nf_report_lines.proofs.Common.{IfOk-from_err, ReportDraft, AtEnd, begun_count}
use Rattle.nf_report_lines.proofs.DraftSteps.{within_by}
use Rattle.nf_report_lines.proofs.draft.Draft.add_end.Goals as goal

pub returns-in_err-close-clause-draft : goal.returns-in_err-close-clause-draft
returns-in_err-close-clause-draft c = λ n. IfOk-from_err c.from_residual.result _ c.from_residual.ensures.0

pub returns-in_err-close-clause-within : goal.returns-in_err-close-clause-within
returns-in_err-close-clause-within c = λ n within. IfOk-from_err c.from_residual.result _ c.from_residual.ensures.0

pub returns-clause-draft : goal.returns-clause-draft
returns-clause-draft c = λ n. ap (λ (r : ReportDraft). record r { stage = AtEnd }) (c.in_ok-close.ensures.draft n)

pub returns-clause-within : goal.returns-clause-within
returns-clause-within c = λ n within.
    within_by n _ (begun_count c.args.self.now) c.in_ok-close.ensures.shut c.in_ok-close.ensures.count within.curves
    (c.in_ok-close.ensures.idle n within.idle) (ap length c.close.ensures.states ∙ within.states)
