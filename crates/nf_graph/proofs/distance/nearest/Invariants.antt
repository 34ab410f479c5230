use Rattle.nf_graph.proofs.Common.{IsNearestBefore}
use Rattle.nf_graph.proofs.distance.nearest.Given as goal

-- the least offer made to the open nodes so far
abbrev pub invariant-loop-v : goal.invariant-loop-v
invariant-loop-v l = IsNearestBefore l.sums l.offers l.v l.best
