use Rattle.nf_complete_conditions.proofs.Common.{ℚ, 0ℚ, passes_Q, more_at}
use Rattle.nf_complete_conditions.proofs.LinkByLink.{SoFar}
use Rattle.nf_complete_conditions.proofs.node_sums.flow_at.Given as goal

-- the sum over the links so far is continued over the remaining links
abbrev pub invariant-loop-e : goal.invariant-loop-e
invariant-loop-e l = (rate : ℚ) → SoFar (more_at passes_Q l.net.net l.sets rate l.flows l.end l.node) l.net.net 0ℚ l.so_far l.e
