use Rattle.std.proofs.Common.{ℕ, ◌<◌}
use Rattle.nf_graph.proofs.Common.{Has, EntersFromUnplaced, AreSearched}
use Rattle.nf_graph.proofs.order.next_ready.Given as goal

-- each of the nodes so far that is not placed is entered, and the numbers searched are right
abbrev pub invariant-loop-v : goal.invariant-loop-v
invariant-loop-v l = record {
  entered : (v : ℕ) → v < l.v → (Has l.placed v → ⊥) → (e : ℕ) × EntersFromUnplaced l.hops l.chosen l.placed e v;
  searched : AreSearched l.hops l.chosen l.placed l.searched;
}
