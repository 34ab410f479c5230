use Rattle.std.proofs.Common.{ℕ, ◌<◌}
use Rattle.nf_graph.proofs.Common.{Has, Hop, IsHop}
use Rattle.nf_graph.proofs.reach.next_reached.Given as goal

-- none of the hops so far leaves the flags
abbrev pub invariant-loop-hop : goal.invariant-loop-hop
invariant-loop-hop l = (k : ℕ) (hop : Hop) → k < l.hop-index → IsHop l.hops k hop → Has l.flags hop.tail → Has l.flags hop.head
