use Rattle.std.proofs.Common.{◌≡◌, ◌+◌, Bool, List, length, ap, sym, subst, arith}
use Rattle.nf_pattern.proofs.Common.{Pattern, AreBarred, IsBaseState}
use Rattle.nf_pattern.proofs.Each.{each_pushed, length_pushed, each_none, take_front}
use Rattle.nf_pattern.proofs.EnteredNodes.{bars_next}
use Rattle.nf_pattern.proofs.FirstPatterns.{is_base}
use Rattle.nf_pattern.proofs.bases.base.Goals as goal

pub loop-e-preserved : goal.loop-e-preserved
loop-e-preserved c = rw c.in_ok-push.ensures.items (record {
  count = length_pushed c.loop-e.states.items c.base_state-state.result c.loop-e.e c.loop-e.invariant.count;
  each =
      each_pushed (IsBaseState c.args.hops.now c.args.sets.now c.args.last.now) c.loop-e.states.items c.base_state-state.result c.loop-e.e
      c.loop-e.invariant.count c.loop-e.invariant.each c.base_state-state.ensures;
  flags =
      let count = c.loop-e.flags.ok.0 in
      let value = c.deref_mut.ensures.value in
      let kept = c.mark_head.auto.flags in
      let same = ap (λ (l : List Bool). length l) value in
      let next : AreBarred c.args.nodes c.args.hops.now c.args.sets.now (c.loop-e.e + 1) c.mark_head.new.flags =
      bars_next c.args.nodes c.args.hops.now c.args.sets.now c.requires.ends c.loop-e.e c.loop-e.flags.items c.mark_head.new.flags c.active.result c.loop-e-test.true
      (λ hop p. rw (sym value) (c.mark_head.ensures hop p)) c.active.ensures.flag c.loop-e.invariant.flags in
      subst (AreBarred c.args.nodes c.args.hops.now c.args.sets.now (c.loop-e.e + 1)) (sym (take_front c.mark_head.new.flags _ c.loop-e.flags.len (omega arith))) next;
})

pub returns : goal.returns
returns c = rw c.of.ensures (is_base c.args.hops.now c.args.sets.now c.args.last.now c.loop-e.states.items
    (let n : length c.loop-e.states.items ≡ c.loop-e.e = c.loop-e.invariant.count in omega arith) c.loop-e.invariant.each)

pub loop-e-init : goal.loop-e-init
loop-e-init c = record {
  count = ap (λ (states : Pattern). length states) c.new-states.ensures.items;
  each = each_none (IsBaseState c.args.hops.now c.args.sets.now c.args.last.now) c.new-states.result.items c.new-states.ensures.items;
  flags = c.in_ok-flags.ensures;
}
