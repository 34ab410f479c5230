use Rattle.nf_graph.proofs.Common.{AreSearched}
use Rattle.nf_graph.proofs.Flags.{free}
use Rattle.nf_graph.proofs.Orders.{ArePlaced}
use Rattle.nf_graph.proofs.order.order_or_cycle.Given as goal

-- the nodes placed stand in the order, and the numbers searched are right
abbrev pub invariant-loop-node : goal.invariant-loop-node
invariant-loop-node l = record {
  placed : ArePlaced l.nodes l.hops l.chosen l.placed.items l.order.items;
  searched : AreSearched l.hops l.chosen l.placed.items l.searched.items;
}

abbrev pub decreases-loop-node : goal.decreases-loop-node
decreases-loop-node l = free l.placed.items
