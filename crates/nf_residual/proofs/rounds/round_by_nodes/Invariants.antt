use Rattle.nf_residual.proofs.Common.{passes_Q}
use Rattle.nf_residual.proofs.NodeByNode.{NodesOn}
use Rattle.nf_residual.proofs.rounds.round_by_nodes.Given as goal

abbrev pub invariant-loop-node : goal.invariant-loop-node
invariant-loop-node l = NodesOn passes_Q l.arcs.legs.items l.fn.fresh l.fn.ways l.before l.ways l.places.items l.node
