use Rattle.std.proofs.Common.{◌+◌, Some, ap, ◌∙◌, add-one, arith, set}
use Rattle.nf_report_lines.proofs.Common.{few_links}
use Rattle.nf_report_lines.proofs.DraftSteps.{with_state}
use Rattle.nf_report_lines.proofs.draft.Draft.add_state.Goals as goal

pub overflow_add-self : goal.overflow_add-self
overflow_add-self c =
    let few = few_links c.args.net.now c.recall.ensures in
    omega (arith, few, c.requires.fits, c.link.view_is)

pub returns-clause-draft : goal.returns-clause-draft
returns-clause-draft c =
    with_state c.args.net.now c.args.self.now c.close.new.self c.args.link (c.link.inside.0 + 1) c.args.state c.set.new.self (c.in_ok-close.ensures.draft c.args.net.now)
    (ap (λ k. k + 1) c.link.view_is ∙ add-one c.args.link) (c.set.ensures ∙ ap (λ states. set states c.args.link (Some c.args.state)) c.close.ensures.states)
