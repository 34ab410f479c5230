use Rattle.std.proofs.Common.{◌≡◌, false, length, rules, Some, slice_get}
use Rattle.nf_pattern.proofs.FirstPatterns.{tight_first, state_kept, zero_later}
use Rattle.nf_pattern.proofs.bases.base_state.Goals as goal

pub returns-in-None : goal.returns-in-None
returns-in-None c =
    zero_later c.args.hops.now c.args.sets.now c.args.last.now (length c.args.flags.now) c.args.link c.args.flags.now c.requires.link
    c.if-not-active.ensures.flag c.if-resetting.ensures.flag c.in-None.ensures c.requires.flags c.if-has_marked_head.ensures

pub returns-in-Some : goal.returns-in-Some
returns-in-Some c =
    let off : slice_get c.args.sets.now.resetting c.args.link ≡ Some false = search rules in
    state_kept c.args.hops.now c.args.sets.now c.args.last.now c.args.link c.in-Some.state c.if-not-active.ensures.flag off c.in-Some.ensures

pub returns-in-None-2 : goal.returns-in-None-2
returns-in-None-2 c =
    tight_first c.args.hops.now c.args.sets.now c.args.last.now (length c.args.flags.now) c.args.link c.args.flags.now c.requires.link
    c.if-not-active.ensures.flag c.if-resetting.ensures.flag c.in-None.ensures c.requires.flags c.if-has_marked_head.ensures
