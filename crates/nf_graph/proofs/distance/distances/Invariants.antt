use Rattle.nf_graph.proofs.Entries.{unsettled}
use Rattle.nf_graph.proofs.Settling.{AreOffering}
use Rattle.nf_graph.proofs.distance.distances.Given as goal

-- the nodes settled so far have their least sums, and the links that leave them have made their offers
abbrev pub invariant-loop-step : goal.invariant-loop-step
invariant-loop-step l = AreOffering l.nodes l.hops l.fn.from l.sums.items l.offers.items

abbrev pub decreases-loop-step : goal.decreases-loop-step
decreases-loop-step l = unsettled l.sums.items
