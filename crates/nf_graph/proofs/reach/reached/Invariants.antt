use Rattle.nf_graph.proofs.Flags.{free}
use Rattle.nf_graph.proofs.Reaching.{AreWalked}
use Rattle.nf_graph.proofs.reach.reached.Given as goal

-- a walk leads to each node with a flag
abbrev pub invariant-loop-node : goal.invariant-loop-node
invariant-loop-node l = AreWalked l.nodes l.hops l.fn.from l.flags.items

abbrev pub decreases-loop-node : goal.decreases-loop-node
decreases-loop-node l = free l.flags.items
