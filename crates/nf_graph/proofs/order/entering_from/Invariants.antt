use Rattle.nf_graph.proofs.Common.{NoneEnters}
use Rattle.nf_graph.proofs.order.entering_from.Given as goal

-- none of the links so far enters the node
abbrev pub invariant-loop-e : goal.invariant-loop-e
invariant-loop-e l = NoneEnters l.hops l.chosen l.placed l.node l.e
