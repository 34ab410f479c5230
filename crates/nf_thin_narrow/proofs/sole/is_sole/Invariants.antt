use Rattle.std.proofs.Common.{◌≡◌, ◌<◌, ℕ}
use Rattle.nf_thin_narrow.proofs.Common.{Has, Hop, IsHop}
use Rattle.nf_thin_narrow.proofs.sole.is_sole.Given as goal

-- None of the links so far is another active link to the node.
abbrev pub invariant-loop-e : goal.invariant-loop-e
invariant-loop-e l = (k : ℕ) (other : Hop) → k < l.e → IsHop l.hops k other → other.head ≡ l.node → Has l.sets.active k → k ≡ l.link
