use Rattle.std.proofs.Common.{◌≡◌, ◌∙◌, ◌+◌, ℕ, Bool, true, List, length, replicate, ap, sym, refl, subst, arith}
use Rattle.nf_pattern.proofs.Common.{length-replicate, with_items_is, AreBelow, AreEndsBefore, AreEnds, EntersAlone}
use Rattle.nf_pattern.proofs.Each.{each_none, each_pushed, length_pushed}
use Rattle.nf_pattern.proofs.Entries.{no_ends}
use Rattle.nf_pattern.proofs.sole.sole_links.Goals as goal

pub loop-e-init : goal.loop-e-init
loop-e-init c =
    let start : c.in_ok-before.before.items ≡ replicate c.args.nodes 0 = c.in_ok-before.ensures.items_if_clones_equal (λ y e. e) in
    record {
      count = ap (λ (l : List Bool). length l) c.in_ok-sole.ensures.items;
      sole = each_none (λ (k : ℕ) (flag : Bool). flag ≡ true → EntersAlone c.args.source c.args.hops.now c.args.resetting.now c.args.base.now k)
          c.in_ok-sole.sole.items c.in_ok-sole.ensures.items;
      nodes = ap (λ (ns : List ℕ). length ns) start ∙ length-replicate c.args.nodes 0;
      before = subst (λ (ns : List ℕ). AreEndsBefore c.args.hops.now c.args.resetting.now c.args.base.now 0 ns) (sym start)
          (no_ends c.args.hops.now c.args.resetting.now c.args.base.now c.args.nodes);
    }

pub ends-requires-clause-base : goal.ends-requires-clause-base
ends-requires-clause-base c = c.requires.base

pub is_sole-flag-requires-clause-below_before : goal.is_sole-flag-requires-clause-below_before
is_sole-flag-requires-clause-below_before c =
    subst (λ (n : ℕ). AreBelow n c.args.hops.now) (sym (ap (λ (ns : List ℕ). length ns) c.deref.ensures.value ∙ c.loop-e.invariant.nodes)) c.requires.below

pub is_sole-flag-requires-clause-below_all : goal.is_sole-flag-requires-clause-below_all
is_sole-flag-requires-clause-below_all c =
    subst (λ (n : ℕ). AreBelow n c.args.hops.now) (sym (ap (λ (ns : List ℕ). length ns) c.deref-in-loop-e.ensures.value ∙ c.in_ok-all.ensures.count)) c.requires.below

pub note_end-requires-clause-below : goal.note_end-requires-clause-below
note_end-requires-clause-below c =
    subst (λ (n : ℕ). AreBelow n c.args.hops.now) (sym (ap (λ (ns : List ℕ). length ns) c.deref_mut.ensures.value ∙ c.loop-e.invariant.nodes)) c.requires.below

pub note_end-requires-clause-ends : goal.note_end-requires-clause-ends
note_end-requires-clause-ends c =
    subst (λ (ns : List ℕ). AreEndsBefore c.args.hops.now c.args.resetting.now c.args.base.now c.loop-e.e ns) (sym c.deref_mut.ensures.value) c.loop-e.invariant.before

pub loop-e-preserved : goal.loop-e-preserved
loop-e-preserved c =
    let len = c.note_end.auto.ends ∙ c.deref_mut.ensures.len in
    let after = with_items_is c.loop-e.before c.note_end.new.ends len in
    let here : c.is_sole-flag.result ≡ true → EntersAlone c.args.source c.args.hops.now c.args.resetting.now c.args.base.now c.loop-e.e =
    λ flagged. c.is_sole-flag.ensures flagged c.args.resetting.now
    (subst (λ (ns : List ℕ). AreEndsBefore c.args.hops.now c.args.resetting.now c.args.base.now c.loop-e.e ns) (sym c.deref.ensures.value) c.loop-e.invariant.before)
    (subst (λ (ns : List ℕ). AreEnds c.args.hops.now c.args.resetting.now c.args.base.now ns) (sym c.deref-in-loop-e.ensures.value) c.in_ok-all.ensures.ends) in
    record {
      count = ap (λ (l : List Bool). length l) c.in_ok-push.ensures.items ∙ length_pushed c.loop-e.sole.items c.is_sole-flag.result c.loop-e.e c.loop-e.invariant.count;
      sole = rw c.in_ok-push.ensures.items (each_pushed (λ (k : ℕ) (flag : Bool). flag ≡ true
          → EntersAlone c.args.source c.args.hops.now c.args.resetting.now c.args.base.now k) c.loop-e.sole.items c.is_sole-flag.result c.loop-e.e
          c.loop-e.invariant.count c.loop-e.invariant.sole here);
      nodes = ap (λ (ns : List ℕ). length ns) after ∙ (c.note_end.auto.ends ∙ (ap (λ (ns : List ℕ). length ns) c.deref_mut.ensures.value ∙ c.loop-e.invariant.nodes));
      before = subst (λ (ns : List ℕ). AreEndsBefore c.args.hops.now c.args.resetting.now c.args.base.now (c.loop-e.e + 1) ns) (sym after)
          (subst (λ (n : ℕ). AreEndsBefore c.args.hops.now c.args.resetting.now c.args.base.now n c.note_end.new.ends) (omega arith) c.note_end.ensures);
    }

pub returns-clause-sole : goal.returns-clause-sole
returns-clause-sole c e has = c.loop-e.invariant.sole e true has refl
