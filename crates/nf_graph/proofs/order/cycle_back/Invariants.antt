use Rattle.nf_graph.proofs.Flags.{free}
use Rattle.nf_graph.proofs.Cycles.{IsBack}
use Rattle.nf_graph.proofs.order.cycle_back.Given as goal

-- a walk leads from the node to the start, past each node visited
abbrev pub invariant-loop-visited : goal.invariant-loop-visited
invariant-loop-visited l = IsBack l.hops l.chosen l.placed l.fn.start l.visited.items l.walk.items l.node

abbrev pub decreases-loop-visited : goal.decreases-loop-visited
decreases-loop-visited l = free l.visited.items
