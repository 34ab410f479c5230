use Rattle.std.proofs.Common.{◌≤◌, length}
use Rattle.nf_thin_balance.proofs.Common.{HasLinksFrom}
use Rattle.nf_thin_balance.proofs.links_at.LinksAt.new.Given as goal

-- The links from this one on are there.
abbrev pub invariant-loop-link : goal.invariant-loop-link
invariant-loop-link l = record {
  within : l.link ≤ length l.net.net.links;
  later : HasLinksFrom l.net.net l.link l.first.items l.at_tail.items l.at_head.items;
}

abbrev pub decreases-loop-link : goal.decreases-loop-link
decreases-loop-link l = l.link
