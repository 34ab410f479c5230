use Rattle.std.proofs.Common.{true, false, Some, None, inl, inr, ap, ◌∙◌, rules}
use Rattle.nf_pattern.proofs.Common.{State, Tight, Full}
use Rattle.nf_pattern.proofs.Each.{entry_at}
use Rattle.nf_pattern.proofs.Tests.{no_state, other_state, carries_not}
use Rattle.nf_pattern.proofs.entered.may_carry.Goals as goal

pub returns-in_default : goal.returns-in_default
returns-in_default c =
    let at = entry_at c.args.states.now None _ c.args.link c.index-2.result c.requires.states c.index-2.ensures c.in_default.is in
    carries_not c.args.resetting.now c.args.states.now c.args.link (entry_at c.args.resetting.now false false c.args.link c.index.result
    c.requires.resetting c.index.ensures c.if-resetting-index.false)
    (other_state c.args.states.now c.args.link Tight c.in_default.field-0 at (search rules)) (other_state c.args.states.now c.args.link Full c.in_default.field-0 at (search rules))

pub returns-in_default-2 : goal.returns-in_default-2
returns-in_default-2 c =
    let at = entry_at c.args.states.now None _ c.args.link c.index-2.result c.requires.states c.index-2.ensures c.in_default.is in
    carries_not c.args.resetting.now c.args.states.now c.args.link (entry_at c.args.resetting.now false false c.args.link c.index.result
    c.requires.resetting c.index.ensures c.if-resetting-index.false)
    (no_state c.args.states.now c.args.link Tight at) (no_state c.args.states.now c.args.link Full at)

pub returns-in-Some-Tight : goal.returns-in-Some-Tight
returns-in-Some-Tight c =
    inr (inl (entry_at c.args.states.now None _ c.args.link c.index-2.result c.requires.states c.index-2.ensures
    (c.in-Some-Tight.is ∙ ap (λ (s : State). Some s) (rw c.in-Some-Tight.is at c.in-Some-Tight.field-0-is))))

pub returns-in-Some-Full : goal.returns-in-Some-Full
returns-in-Some-Full c =
    inr (inr (entry_at c.args.states.now None _ c.args.link c.index-2.result c.requires.states c.index-2.ensures
    (c.in-Some-Full.is ∙ ap (λ (s : State). Some s) (rw c.in-Some-Full.is at c.in-Some-Full.field-0-is))))

pub returns-then-resetting-index : goal.returns-then-resetting-index
returns-then-resetting-index c =
    inl (entry_at c.args.resetting.now false true c.args.link c.index.result c.requires.resetting c.index.ensures c.if-resetting-index.true)
