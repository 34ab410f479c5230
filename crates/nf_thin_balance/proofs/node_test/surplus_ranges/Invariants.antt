use Rattle.std.proofs.Common.{◌≡◌, length}
use Rattle.nf_thin_balance.proofs.Common.{BoundEach}
use Rattle.nf_thin_balance.proofs.node_test.surplus_ranges.Given as goal

-- The surplus of each node on the links so far is within its range.
abbrev pub invariant-loop-e : goal.invariant-loop-e
invariant-loop-e l = record { count : length l.nodes.items ≡ l.net.net.nodes; each : BoundEach l.net.net l.ranges l.e l.nodes.items }
