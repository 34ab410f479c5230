use Rattle.nf_report_lines.proofs.DraftSteps.{begun_is}
use Rattle.nf_report_lines.proofs.draft.Draft.begin.Goals as goal

pub returns-clause-draft : goal.returns-clause-draft
returns-clause-draft c =
    λ n more. begun_is n c.args.self.now c.close.new.self (c.in_ok-close.ensures.draft n) c.in_ok-close.ensures.shut c.in_ok-close.ensures.count more
    c.in_ok-begun.field-0 c.args.point.now c.in_ok-begun.ensures.points c.in_ok-begun.ensures.rates

pub returns-clause-idle : goal.returns-clause-idle
returns-clause-idle c = c.in_ok-close.ensures.idle
