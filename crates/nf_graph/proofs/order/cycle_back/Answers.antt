use Rattle.std.proofs.Common.{◌≡◌, ℕ, ◌<◌, List, length, set, replicate, true, false, Some, slice_get, sym, subst, ap, ◌∙◌, arith}
use Rattle.nf_graph.proofs.Common.{slice_get_within, length-replicate, Hop, IsHop, Turns, IsChosenCycle}
use Rattle.nf_graph.proofs.Flags.{free, Has_from_place, not_Has_from_place}
use Rattle.nf_graph.proofs.Reaching.{fewer_free}
use Rattle.nf_graph.proofs.Walks.{IsHop-read}
use Rattle.nf_graph.proofs.Cycles.{IsBack, back_first, back_more, back_within, back_cycle, insert-first}
use Rattle.nf_graph.proofs.order.cycle_back.Goals as goal

pub loop-visited-smaller : goal.loop-visited-smaller
loop-visited-smaller c =
    subst (λ (i : ℕ). free (set c.loop-visited.visited.items i true) < free c.loop-visited.visited.items) (sym c.index-in-loop-visited-2.ensures)
    (fewer_free c.loop-visited.visited.items c.loop-visited.node (omega (arith, c.loop-visited.invariant.count, c.loop-visited.invariant.below))
    (not_Has_from_place c.loop-visited.visited.items c.index.result c.loop-visited.node c.index-in-loop-visited.result.now c.loop-visited-test.true
    c.index-in-loop-visited.ensures c.index.ensures (omega (arith, c.loop-visited.invariant.count, c.loop-visited.invariant.below))))

pub loop-visited-preserved : goal.loop-visited-preserved
loop-visited-preserved c =
    let link : ℕ = c.entering_link-link.result in
    let within : link < length c.args.hops.now = slice_get_within c.args.hops.now link c.entering_link-link.ensures.hop c.entering_link-link.ensures.is_hop in
    let read : IsHop c.args.hops.now link c.index-hops-index.result = subst (λ (n : ℕ). IsHop c.args.hops.now n c.index-hops-index.result) c.index-in-loop-visited-3.ensures
    (IsHop-read c.args.hops.now c.index-in-loop-visited-3.result c.index-hops-index.result
    (subst (λ (n : ℕ). n < length c.args.hops.now) (sym c.index-in-loop-visited-3.ensures) within) c.index-hops-index.is) in
    subst (λ (walk : List ℕ). IsBack c.args.hops.now c.args.chosen.now c.args.placed.now c.args.start
    (set c.loop-visited.visited.items c.index-in-loop-visited-2.result true) walk c.hop.inside.tail)
    (sym {A = List ℕ} (insert-first c.loop-visited.walk.items link) ∙ sym {A = List ℕ} c.in_ok-insert.ensures.items)
    (back_more c.args.hops.now c.args.chosen.now c.args.placed.now c.args.start c.loop-visited.visited.items c.loop-visited.walk.items c.loop-visited.node link c.hop.inside.tail
    c.index-in-loop-visited-2.result c.index-hops-index.result c.requires.ends c.loop-visited.invariant c.entering_link-link.ensures read
    (ap (λ (h : Hop). h.tail) c.hop.view_is) c.index-in-loop-visited-2.ensures)

pub turn_back-requires-clause-within : goal.turn_back-requires-clause-within
turn_back-requires-clause-within c = subst (λ (walk : List ℕ). (i e : ℕ) → slice_get walk i ≡ Some e → e < length c.args.hops.now) (sym c.deref.ensures.value)
    (back_within c.args.hops.now c.args.chosen.now c.args.placed.now c.args.start c.loop-visited.visited.items c.loop-visited.walk.items c.loop-visited.node
    c.requires.count c.loop-visited.invariant)

pub turn_back-requires-clause-turns : goal.turn_back-requires-clause-turns
turn_back-requires-clause-turns c = subst (λ (walk : List ℕ). (count : ℕ) × Turns c.args.hops.now walk c.loop-visited.node count) (sym c.deref.ensures.value)
    (c.loop-visited.invariant.seen c.loop-visited.node (Has_from_place c.loop-visited.visited.items c.index.result c.loop-visited.node
    c.index-in-loop-visited.result.now c.loop-visited-test.false c.index-in-loop-visited.ensures c.index.ensures
    (omega (arith, c.loop-visited.invariant.count, c.loop-visited.invariant.below))))

pub returns : goal.returns
returns c = subst (λ (walk : List ℕ). IsChosenCycle c.args.hops.now c.args.chosen.now walk) (sym c.truncate.ensures.items)
    (back_cycle c.args.hops.now c.args.chosen.now c.args.placed.now c.args.start c.loop-visited.visited.items c.loop-visited.walk.items c.loop-visited.node
    c.turn_back.result c.loop-visited.invariant
    (subst (λ (walk : List ℕ). Turns c.args.hops.now walk c.loop-visited.node c.turn_back.result) c.deref.ensures.value c.turn_back.ensures))

pub loop-visited-init : goal.loop-visited-init
loop-visited-init c =
    let unset : c.in_ok-visited.visited.items ≡ replicate (length c.args.placed.now) false = c.in_ok-visited.ensures.items_if_clones_equal (λ _ e. e) in
    back_first c.args.hops.now c.args.chosen.now c.args.placed.now c.args.start (length c.args.placed.now) c.in_ok-visited.visited.items c.new-walk.result.items
    c.requires.below c.requires.free unset (ap length unset ∙ length-replicate (length c.args.placed.now) false) c.new-walk.ensures.items

pub bounds-hops-index : goal.bounds-hops-index
bounds-hops-index c =
    subst (λ (n : ℕ). n < length c.args.hops.now) (sym c.index-in-loop-visited-3.ensures)
    (slice_get_within c.args.hops.now c.entering_link-link.result c.entering_link-link.ensures.hop c.entering_link-link.ensures.is_hop)

pub entering_link-link-requires-clause-ends : goal.entering_link-link-requires-clause-ends
entering_link-link-requires-clause-ends c = c.requires.ends

pub entering_link-link-requires-clause-count : goal.entering_link-link-requires-clause-count
entering_link-link-requires-clause-count c = c.requires.count

pub entering_link-link-requires-clause-some : goal.entering_link-link-requires-clause-some
entering_link-link-requires-clause-some c = c.requires.stuck c.loop-visited.node c.loop-visited.invariant.below c.loop-visited.invariant.free
