use Rattle.std.proofs.Common.{◌∙◌, ℕ, ◌+◌, List, Option, length, ap, sym, subst, arith, replicate, None, ◌≡◌, rules}
use Rattle.nf_pattern.proofs.Common.{with_items_is, length-replicate, Hop, IsHop, AreBelow, IsLastInto, AreLastInto, AreChained, none-some}
use Rattle.nf_pattern.proofs.Each.{each_pushed, length_pushed}
use Rattle.nf_pattern.proofs.Entries.{none_last}
use Rattle.nf_pattern.proofs.entered.chain.Goals as goal

pub loop-e-preserved : goal.loop-e-preserved
loop-e-preserved c =
    let len = c.chain_link-before.auto.last ∙ c.deref_mut.ensures.len in
    let after = with_items_is c.loop-e.last c.chain_link-before.new.last len in
    record {
      count_last = ap (λ (os : List (Option ℕ)). length os) after ∙ (c.chain_link-before.auto.last
          ∙ (ap (λ (os : List (Option ℕ)). length os) c.deref_mut.ensures.value ∙ c.loop-e.invariant.count_last));
      last = subst (λ (os : List (Option ℕ)). AreLastInto c.args.hops.now (c.loop-e.e + 1) os) (sym after)
          (subst (λ (n : ℕ). AreLastInto c.args.hops.now n c.chain_link-before.new.last) (omega arith) c.chain_link-before.ensures.last);
      count = ap (λ (os : List (Option ℕ)). length os) c.in_ok-push.ensures.items ∙ length_pushed c.loop-e.chain.items c.chain_link-before.result c.loop-e.e c.loop-e.invariant.count;
      chain = subst (AreChained c.args.hops.now) (sym c.in_ok-push.ensures.items)
          (each_pushed (λ (e : ℕ) (found : Option ℕ). (hop : Hop) → IsHop c.args.hops.now e hop → IsLastInto c.args.hops.now e hop.head found)
          c.loop-e.chain.items c.chain_link-before.result c.loop-e.e
          c.loop-e.invariant.count c.loop-e.invariant.chain c.chain_link-before.ensures.before);
    }

pub loop-e-init : goal.loop-e-init
loop-e-init c =
    let start : c.in_ok-last.last.items ≡ replicate {A = Option ℕ} c.args.nodes None = c.in_ok-last.ensures.items_if_clones_equal (λ y e. search rules) in
    record {
      count_last = ap (λ (os : List (Option ℕ)). length os) start ∙ length-replicate c.args.nodes None;
      last = subst (AreLastInto c.args.hops.now 0) (sym start) (none_last c.args.hops.now c.args.nodes);
      count = ap (λ (os : List (Option ℕ)). length os) c.in_ok-chain.ensures.items;
      chain = subst (AreChained c.args.hops.now) (sym c.in_ok-chain.ensures.items) (λ e found at. absurd (none-some found at));
    }

pub chain_link-before-requires-clause-last : goal.chain_link-before-requires-clause-last
chain_link-before-requires-clause-last c = subst (AreLastInto c.args.hops.now c.loop-e.e) (sym c.deref_mut.ensures.value) c.loop-e.invariant.last

pub chain_link-before-requires-clause-below : goal.chain_link-before-requires-clause-below
chain_link-before-requires-clause-below c =
    subst (λ (n : ℕ). AreBelow n c.args.hops.now) (sym (ap (λ (os : List (Option ℕ)). length os) c.deref_mut.ensures.value ∙ c.loop-e.invariant.count_last)) c.requires.below

pub chain_link-before-requires-clause-fewer : goal.chain_link-before-requires-clause-fewer
chain_link-before-requires-clause-fewer c = c.requires.fewer
