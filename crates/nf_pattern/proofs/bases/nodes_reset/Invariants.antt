use Rattle.nf_pattern.proofs.Common.{AreEntered}
use Rattle.nf_pattern.proofs.EnteredNodes.{ResetsBefore}
use Rattle.nf_pattern.proofs.bases.nodes_reset.Given as goal

-- the flags of the nodes that a resetting link so far enters are set
abbrev pub invariant-loop-e : goal.invariant-loop-e
invariant-loop-e l = AreEntered l.nodes l.hops (ResetsBefore l.sets l.e) l.flags.items
