use Rattle.std.proofs.Common.{◌≡◌, ℕ, ◌<◌, Some, slice_get}
use Rattle.nf_graph.proofs.Common.{Hop, IsHop}
use Rattle.nf_graph.proofs.order.turn.Given as goal

-- none of the links so far leads to the node
abbrev pub invariant-loop-place : goal.invariant-loop-place
invariant-loop-place l = (k : ℕ) → k < l.place → (e : ℕ) (hop : Hop) → slice_get l.walk k ≡ Some e → IsHop l.hops e hop → hop.head ≡ l.node → ⊥
