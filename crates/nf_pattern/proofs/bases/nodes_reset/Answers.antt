use Rattle.std.proofs.Common.{ap, sym, subst, Bool, List, length, arith}
use Rattle.nf_pattern.proofs.Common.{AreEntered}
use Rattle.nf_pattern.proofs.Each.{take_front}
use Rattle.nf_pattern.proofs.EnteredNodes.{ResetsBefore, no_reset, resets_next, all_resets}
use Rattle.nf_pattern.proofs.bases.nodes_reset.Goals as goal

pub loop-e-init : goal.loop-e-init
loop-e-init c =
    subst (AreEntered c.args.nodes c.args.hops.now (ResetsBefore c.args.sets.now 0)) (sym (c.in_ok-flags.ensures.items_if_clones_equal (λ _ e. e)))
    (no_reset c.args.nodes c.args.hops.now c.args.sets.now)

pub loop-e-preserved : goal.loop-e-preserved
loop-e-preserved c =
    let count = c.loop-e.flags.ok.0 in
    let value = c.deref_mut.ensures.value in
    let kept = c.mark_head.auto.flags in
    let same = ap (λ (l : List Bool). length l) value in
    rw (take_front c.mark_head.new.flags _ c.loop-e.flags.len (omega arith))
    (resets_next c.args.nodes c.args.hops.now c.args.sets.now c.requires.ends c.loop-e.e c.loop-e.flags.items c.mark_head.new.flags c.resetting.result c.loop-e-test.true
    (λ hop p. rw (sym value) (c.mark_head.ensures hop p)) c.resetting.ensures.flag c.loop-e.invariant)

pub returns : goal.returns
returns c = all_resets c.args.nodes c.args.hops.now c.args.sets.now c.loop-e.e c.loop-e.flags.items c.loop-e-test.false c.loop-e.invariant
