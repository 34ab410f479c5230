use Rattle.nf_residual.proofs.LegByLeg.{LegsOn}
use Rattle.nf_residual.proofs.legs.legs_of.Given as goal

abbrev pub invariant-loop-e : goal.invariant-loop-e
invariant-loop-e l = LegsOn l.net.net.links l.flows l.legs.items l.e
