use Rattle.std.proofs.Common.{◌≡◌, ℕ, length}
use Rattle.nf_thin_balance.proofs.Common.{ℚ, AreFlowsWithin, IsConserved}
use Rattle.nf_thin_balance.proofs.leaves.comes_out.Given as goal

-- Each possible flow is within the ranges so far.
abbrev pub invariant-loop-v : goal.invariant-loop-v
invariant-loop-v l = record {
  count : length l.ranges.items ≡ length l.net.net.links;
  within : (flow : ℕ → ℚ) → AreFlowsWithin l.fn.ranges.items flow → IsConserved l.net.net l.supply flow → AreFlowsWithin l.ranges.items flow;
}
