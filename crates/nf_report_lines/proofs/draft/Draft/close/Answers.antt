use Rattle.std.proofs.Common.{sym, ◌∙◌}
use Rattle.nf_report_lines.proofs.DraftSteps.{closed_is, idle_kept}
use Rattle.nf_report_lines.proofs.draft.Draft.close.Goals as goal

pub returns-in_ok-push-clause-draft : goal.returns-in_ok-push-clause-draft
returns-in_ok-push-clause-draft c =
    λ n. closed_is n c.args.self.now c.push.new.self.items c.take.new.self c.in-Some.trace c.fitted.result (sym c.take.ensures.value ∙ c.in-Some.is) c.take.ensures.after
    c.fitted.ensures.points c.fitted.ensures.rates c.in_ok-push.ensures.items

pub returns-in_ok-push-clause-idle : goal.returns-in_ok-push-clause-idle
returns-in_ok-push-clause-idle c = λ n. idle_kept n c.args.self.now.done.items c.push.new.self.items c.fitted.result c.in_ok-push.ensures.items
