use Rattle.std.proofs.Common.{◌≤◌, ◌-◌, length}
use Rattle.nf_thin_balance.proofs.Common.{BoundsFirst}
use Rattle.nf_thin_balance.proofs.node_test.surplus_range.Given as goal

-- The surplus on the links before this one is in the range.
abbrev pub invariant-loop-link : goal.invariant-loop-link
invariant-loop-link l = record {
  within : l.link ≤ length l.net.net.links;
  so_far : BoundsFirst l.net.net l.ranges l.node l.link l.range;
}

abbrev pub decreases-loop-link : goal.decreases-loop-link
decreases-loop-link l = length l.net.net.links - l.link
