use Rattle.nf_residual.proofs.Chaining.{ChainsOn}
use Rattle.nf_residual.proofs.legs.Arcs.of.Given as goal

abbrev pub invariant-loop-left : goal.invariant-loop-left
invariant-loop-left l = ChainsOn l.nodes l.legs.items l.first.items l.next.items l.left

abbrev pub decreases-loop-left : goal.decreases-loop-left
decreases-loop-left l = l.left
