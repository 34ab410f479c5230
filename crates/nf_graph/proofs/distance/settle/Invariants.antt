use Rattle.nf_graph.proofs.Common.{AreOffers, LinksBefore}
use Rattle.nf_graph.proofs.distance.settle.Given as goal

-- the links of the node so far have made their offers, and so have those of the nodes that were settled before
abbrev pub invariant-loop-e : goal.invariant-loop-e
invariant-loop-e l = AreOffers l.hops l.sums (LinksBefore l.step.node l.e) l.offers
