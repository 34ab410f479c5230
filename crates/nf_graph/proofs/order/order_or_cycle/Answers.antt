use Rattle.std.proofs.Common.{◌≡◌, ℕ, ◌<◌, List, Bool, length, set, replicate, true, false, ap, sym, subst, ◌∙◌}
use Rattle.nf_graph.proofs.Common.{length-replicate, with_items_is, Has, AreBelow, IsReady, IsStuck, AreSearched}
use Rattle.nf_graph.proofs.Flags.{free}
use Rattle.nf_graph.proofs.Reaching.{fewer_free}
use Rattle.nf_graph.proofs.Searching.{searched_first, searched_placed}
use Rattle.nf_graph.proofs.Orders.{ArePlaced, placed_first, placed_next, order_all}
use Rattle.nf_graph.proofs.order.order_or_cycle.Goals as goal

pub loop-node-init : goal.loop-node-init
loop-node-init c =
    let none : c.in_ok-placed.placed.items ≡ replicate c.args.nodes false = c.in_ok-placed.ensures.items_if_clones_equal (λ _ e. e) in
    let zeros : c.in_ok-searched.searched.items ≡ replicate c.args.nodes 0 = c.in_ok-searched.ensures.items_if_clones_equal (λ _ e. e) in
    record {
      placed = placed_first c.args.nodes c.args.hops.now c.args.chosen.now c.in_ok-placed.placed.items c.new-order.result.items none c.new-order.ensures.items;
      searched = searched_first c.args.hops.now c.args.chosen.now c.in_ok-placed.placed.items c.args.nodes c.in_ok-searched.searched.items zeros
          (ap length zeros ∙ length-replicate c.args.nodes 0 ∙ sym (ap length none ∙ length-replicate c.args.nodes false));
    }

pub next_ready-requires-clause-searched : goal.next_ready-requires-clause-searched
next_ready-requires-clause-searched c = subst (λ (f : List Bool). AreSearched c.args.hops.now c.args.chosen.now f c.deref_mut.result.now) (sym c.deref.ensures.value)
    (subst (AreSearched c.args.hops.now c.args.chosen.now c.loop-node.placed.items) (sym c.deref_mut.ensures.value) c.loop-node.invariant.searched)

pub loop-node-smaller : goal.loop-node-smaller
loop-node-smaller c =
    let ready : IsReady c.args.hops.now c.args.chosen.now c.loop-node.placed.items c.in-Some.node =
    subst (λ (f : List Bool). IsReady c.args.hops.now c.args.chosen.now f c.in-Some.node) c.deref.ensures.value c.in-Some.ensures.ready in
    subst (λ (i : ℕ). free (set c.loop-node.placed.items i true) < free c.loop-node.placed.items) (sym c.index.ensures)
    (fewer_free c.loop-node.placed.items c.in-Some.node ready.below ready.free)

pub loop-node-preserved : goal.loop-node-preserved
loop-node-preserved c =
    let ready : IsReady c.args.hops.now c.args.chosen.now c.loop-node.placed.items c.in-Some.node =
    subst (λ (f : List Bool). IsReady c.args.hops.now c.args.chosen.now f c.in-Some.node) c.deref.ensures.value c.in-Some.ensures.ready in
    let searched : AreSearched c.args.hops.now c.args.chosen.now c.loop-node.placed.items c.next_ready.new.searched =
    subst (λ (f : List Bool). AreSearched c.args.hops.now c.args.chosen.now f c.next_ready.new.searched) c.deref.ensures.value c.in-Some.ensures.searched in
    record {
      placed = subst (λ (order : List ℕ). ArePlaced c.args.nodes c.args.hops.now c.args.chosen.now (set c.loop-node.placed.items c.index.result true) order)
          (sym c.in_ok-push.ensures.items)
          (placed_next c.args.nodes c.args.hops.now c.args.chosen.now c.loop-node.placed.items c.loop-node.order.items c.in-Some.node c.index.result
          c.requires.ends c.index.ensures ready c.loop-node.invariant.placed);
      searched = subst (AreSearched c.args.hops.now c.args.chosen.now (set c.loop-node.placed.items c.index.result true))
          (sym (with_items_is c.loop-node.searched c.next_ready.new.searched (c.next_ready.auto.searched ∙ c.deref_mut.ensures.len)))
          (searched_placed c.args.hops.now c.args.chosen.now c.loop-node.placed.items c.next_ready.new.searched c.index.result searched);
    }

pub returns-in-None : goal.returns-in-None
returns-in-None c = order_all c.args.nodes c.args.hops.now c.args.chosen.now c.loop-node.placed.items c.loop-node.order.items c.loop-node.invariant.placed
    (subst (λ (f : List Bool). (v : ℕ) → v < length f → Has f v) c.deref-2.ensures.value c.in-None.ensures)

pub cycle_back-requires-clause-ends : goal.cycle_back-requires-clause-ends
cycle_back-requires-clause-ends c =
    subst (λ (f : List Bool). AreBelow (length f) c.args.hops.now) (sym c.deref-in-Some-unplaced.ensures.value)
    (subst (λ (n : ℕ). AreBelow n c.args.hops.now) (sym c.loop-node.invariant.placed.count) c.requires.ends)

pub cycle_back-requires-clause-count : goal.cycle_back-requires-clause-count
cycle_back-requires-clause-count c = c.requires.count

pub cycle_back-requires-clause-stuck : goal.cycle_back-requires-clause-stuck
cycle_back-requires-clause-stuck c =
    let found = c.in_default.ensures {u = tt} in
    subst (IsStuck c.args.hops.now c.args.chosen.now) (c.deref.ensures.value ∙ sym c.deref-in-Some-unplaced.ensures.value) found.ready

pub cycle_back-requires-clause-below : goal.cycle_back-requires-clause-below
cycle_back-requires-clause-below c =
    let found = c.in-Some-unplaced.ensures {u = tt} in
    subst (λ (f : List Bool). c.in-Some-unplaced.start < length f) (c.deref-2.ensures.value ∙ sym c.deref-in-Some-unplaced.ensures.value) found.0

pub cycle_back-requires-clause-free : goal.cycle_back-requires-clause-free
cycle_back-requires-clause-free c =
    let found = c.in-Some-unplaced.ensures {u = tt} in
    subst (λ (f : List Bool). Has f c.in-Some-unplaced.start → ⊥) (c.deref-2.ensures.value ∙ sym c.deref-in-Some-unplaced.ensures.value) found.1
