use Rattle.std.proofs.Common.{◌-◌, length}
use Rattle.nf_residual.proofs.Common.{passes_Q}
use Rattle.nf_residual.proofs.NodeByNode.{OffersOn}
use Rattle.nf_residual.proofs.rounds.offer_from.Given as goal

abbrev pub invariant-loop-arc : goal.invariant-loop-arc
invariant-loop-arc l = OffersOn passes_Q l.arcs.legs.items l.fn.node l.fn.way l.fn.ways l.fn.places.items l.ways l.places.items l.arc

abbrev pub decreases-loop-arc : goal.decreases-loop-arc
decreases-loop-arc l = length l.arcs.legs.items - l.arc
