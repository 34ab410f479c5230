use Rattle.std.proofs.Common.{length}
use Rattle.nf_pattern.proofs.Steps.{Stands, left, whole}
use Rattle.nf_pattern.proofs.walking.TightLinks.closes.Given as goal

-- Both traversals continue, and neither has reached the other's start.
abbrev pub invariant-loop-next : goal.invariant-loop-next
invariant-loop-next l = record {
  near : Stands l.fn.hops l.fn.states l.fn.link l.tail l.head (length l.self.last.items) l.near.node l.near.link;
  far : Stands l.fn.hops l.fn.states l.fn.link l.head l.tail (length l.self.last.items) l.far.node l.far.link;
}

abbrev pub decreases-loop-next : goal.decreases-loop-next
decreases-loop-next l = left l.fn.hops l.fn.states l.fn.link l.tail (whole l.fn.hops l.fn.states l.fn.link l.tail) l.near.node l.near.link
