use Rattle.std.proofs.Common.{ℕ, ◌<◌, get_or, below_more, sym, subst}
use Rattle.nf_graph.proofs.Common.{slice_get-get_or, Has, EntersFromUnplaced}
use Rattle.nf_graph.proofs.Searching.{searched_set}
use Rattle.nf_graph.proofs.order.next_ready.Goals as goal

pub is_ready-requires-clause-searched : goal.is_ready-requires-clause-searched
is_ready-requires-clause-searched c = c.loop-v.invariant.searched.none c.loop-v.v (get_or c.loop-v.searched c.loop-v.v 0)
    (slice_get-get_or c.loop-v.searched c.loop-v.v 0 (subst (λ (n : ℕ). c.loop-v.v < n) (sym c.loop-v.invariant.searched.count) c.loop-v-test.true))

pub returns-then-is_ready-clause-searched : goal.returns-then-is_ready-clause-searched
returns-then-is_ready-clause-searched c =
    searched_set c.args.hops.now c.args.chosen.now c.args.placed.now c.loop-v.searched c.loop-v.v c.is_ready.new.searched c.is_ready.ensures.searched c.loop-v.invariant.searched

pub loop-v-preserved : goal.loop-v-preserved
loop-v-preserved c = record {
  entered =
      below_more (λ (v : ℕ). (Has c.args.placed.now v → ⊥) → (e : ℕ) × EntersFromUnplaced c.args.hops.now c.args.chosen.now c.args.placed.now e v)
      c.loop-v.v c.loop-v.invariant.entered c.if-is_ready.ensures.ready;
  searched =
      searched_set c.args.hops.now c.args.chosen.now c.args.placed.now c.loop-v.searched c.loop-v.v c.is_ready.new.searched c.is_ready.ensures.searched
      c.loop-v.invariant.searched;
}
