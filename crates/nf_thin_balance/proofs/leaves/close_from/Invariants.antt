use Rattle.std.proofs.Common.{◌≡◌, ◌<◌, ℕ, length}
use Rattle.nf_thin_balance.proofs.Common.{ℚ, AreFlowsWithin, IsConserved}
use Rattle.nf_thin_balance.proofs.leaves.close_from.Given as goal

-- Each possible flow is within the ranges so far.
abbrev pub invariant-loop : goal.invariant-loop
invariant-loop l = record {
  node : l.node < l.net.net.nodes;
  count : length l.ranges.items ≡ length l.net.net.links;
  within : (flow : ℕ → ℚ) → AreFlowsWithin l.fn.ranges.items flow → IsConserved l.net.net l.supply flow → AreFlowsWithin l.ranges.items flow;
}
