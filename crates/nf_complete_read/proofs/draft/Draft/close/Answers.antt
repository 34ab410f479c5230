use Rattle.std.proofs.Common.{length, sym, ap, ◌∙◌}
use Rattle.nf_complete_read.proofs.Common.{FlowsDraft, or_nothing, if_ended}
use Rattle.nf_complete_read.proofs.Giving.{as_many, ended_gives}
use Rattle.nf_complete_read.proofs.draft.Draft.close.Goals as goal

pub returns-clause-flows : goal.returns-clause-flows
returns-clause-flows c =
    as_many c.in_ok-or_zero.field-0.items c.deref.result.now c.self.inside.flows.items c.in_ok-or_zero.ensures c.deref.ensures.value
    ∙ ap (λ (d : FlowsDraft). length d.flows) c.self.view_is

pub returns-clause-slopes : goal.returns-clause-slopes
returns-clause-slopes c =
    as_many c.in_ok-or_zero-2.field-0.items c.deref-2.result.now c.self.inside.slopes.items c.in_ok-or_zero-2.ensures c.deref-2.ensures.value
    ∙ ap (λ (d : FlowsDraft). length d.slopes) c.self.view_is

pub returns-clause-closes : goal.returns-clause-closes
returns-clause-closes c =
    ap if_ended (sym c.self.view_is)
    ∙ ended_gives _ c.in_ok-or_zero.field-0.items c.in_ok-or_zero-2.field-0.items c.if-not-self.false
    (c.in_ok-or_zero.ensures ∙ ap or_nothing c.deref.ensures.value) (c.in_ok-or_zero-2.ensures ∙ ap or_nothing c.deref-2.ensures.value)
