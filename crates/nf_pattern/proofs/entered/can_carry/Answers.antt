use Rattle.std.proofs.Common.{Bool, false, None, ◌∙◌, ap, sym, subst, inl, Some, MatchBool}
use Rattle.nf_pattern.proofs.Common.{slice_get-get_or, CanCarry}
use Rattle.nf_pattern.proofs.Entries.{carried_by_state}
use Rattle.nf_pattern.proofs.entered.can_carry.Goals as goal

pub returns-then-resetting-link : goal.returns-then-resetting-link
returns-then-resetting-link c =
    subst (λ (flag : Bool). MatchBool flag (CanCarry c.args.resetting.now c.args.base.now c.args.link)
    (CanCarry c.args.resetting.now c.args.base.now c.args.link → ⊥)) (sym c.if-resetting-link.true)
    (inl (slice_get-get_or c.args.resetting.now c.args.link false c.requires.resetting ∙ ap (λ (flag : Bool). Some flag) c.if-resetting-link.true))

pub returns-else-resetting-link : goal.returns-else-resetting-link
returns-else-resetting-link c =
    subst (λ (flag : Bool). MatchBool flag (CanCarry c.args.resetting.now c.args.base.now c.args.link)
    (CanCarry c.args.resetting.now c.args.base.now c.args.link → ⊥)) (sym c.is_some.ensures)
    (carried_by_state c.args.resetting.now c.args.base.now c.args.link
    (slice_get-get_or c.args.resetting.now c.args.link false c.requires.resetting ∙ ap (λ (flag : Bool). Some flag) c.if-resetting-link.false)
    _ (slice_get-get_or c.args.base.now c.args.link None c.requires.base))
