use Rattle.std.proofs.Common.{◌≡◌, ◌∙◌, ℕ, ◌+◌, List, length, replicate, ap, sym, subst, arith}
use Rattle.nf_pattern.proofs.Common.{length-replicate, with_items_is, AreBelow, AreEndsBefore}
use Rattle.nf_pattern.proofs.Entries.{no_ends}
use Rattle.nf_pattern.proofs.entered.ends.Goals as goal

pub loop-e-init : goal.loop-e-init
loop-e-init c =
    let start : c.in_ok-ends.ends.items ≡ replicate c.args.nodes 0 = c.in_ok-ends.ensures.items_if_clones_equal (λ y e. e) in
    record {
      count = ap (λ (ns : List ℕ). length ns) start ∙ length-replicate c.args.nodes 0;
      ends = subst (λ (ns : List ℕ). AreEndsBefore c.args.hops.now c.args.resetting.now c.args.base.now 0 ns) (sym start)
          (no_ends c.args.hops.now c.args.resetting.now c.args.base.now c.args.nodes);
    }

pub note_end-requires-clause-below : goal.note_end-requires-clause-below
note_end-requires-clause-below c =
    subst (λ (n : ℕ). AreBelow n c.args.hops.now) (sym (ap (λ (ns : List ℕ). length ns) c.deref_mut.ensures.value ∙ c.loop-e.invariant.count)) c.requires.below

pub note_end-requires-clause-ends : goal.note_end-requires-clause-ends
note_end-requires-clause-ends c =
    subst (λ (ns : List ℕ). AreEndsBefore c.args.hops.now c.args.resetting.now c.args.base.now c.loop-e.e ns) (sym c.deref_mut.ensures.value) c.loop-e.invariant.ends

pub loop-e-preserved : goal.loop-e-preserved
loop-e-preserved c =
    let len = c.note_end.auto.ends ∙ c.deref_mut.ensures.len in
    let after = with_items_is c.loop-e.ends c.note_end.new.ends len in
    record {
      count = ap (λ (ns : List ℕ). length ns) after ∙ (c.note_end.auto.ends ∙ (ap (λ (ns : List ℕ). length ns) c.deref_mut.ensures.value ∙ c.loop-e.invariant.count));
      ends = subst (λ (ns : List ℕ). AreEndsBefore c.args.hops.now c.args.resetting.now c.args.base.now (c.loop-e.e + 1) ns) (sym after)
          (subst (λ (n : ℕ). AreEndsBefore c.args.hops.now c.args.resetting.now c.args.base.now n c.note_end.new.ends) (omega arith) c.note_end.ensures);
    }

pub returns-clause-count : goal.returns-clause-count
returns-clause-count c = c.loop-e.invariant.count

pub returns-clause-ends : goal.returns-clause-ends
returns-clause-ends c =
    let end : c.loop-e.e ≡ length c.args.hops.now = (let all = c.loop-e-test.false in let most = c.loop-e.auto.e-end in omega arith) in
    subst (λ (n : ℕ). AreEndsBefore c.args.hops.now c.args.resetting.now c.args.base.now n c.loop-e.ends.items) end c.loop-e.invariant.ends

pub note_end-requires-clause-resetting : goal.note_end-requires-clause-resetting
note_end-requires-clause-resetting c = c.requires.resetting

pub note_end-requires-clause-base : goal.note_end-requires-clause-base
note_end-requires-clause-base c = c.requires.base
