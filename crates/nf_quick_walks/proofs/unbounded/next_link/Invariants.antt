use Rattle.std.proofs.Common.{◌≡◌, ℕ, ◌<◌, false}
use Rattle.nf_quick_walks.proofs.Common.{Link, IsLink, leads_on}
use Rattle.nf_quick_walks.proofs.unbounded.next_link.Given as goal

-- None of the links so far leads to a new node.
abbrev pub invariant-loop-number : goal.invariant-loop-number
invariant-loop-number l = (k : ℕ) (link : Link) → k < l.number → IsLink l.net.net k link → leads_on l.ways link ≡ false
