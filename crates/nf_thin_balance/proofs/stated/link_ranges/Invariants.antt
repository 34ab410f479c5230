use Rattle.std.proofs.Common.{◌≡◌, ℕ, List, length}
use Rattle.nf_thin_balance.proofs.Common.{ℚ, AreFlowsWithin, scaled_flow, CanCarryFlows}
use Rattle.nf_thin_balance.proofs.stated.link_ranges.Given as goal

-- the ranges of the links so far
abbrev pub invariant-loop-e : goal.invariant-loop-e
invariant-loop-e l = record {
  count : length l.ranges.items ≡ l.e;
  carry : (scale : ℕ) (rate : ℚ) (flows : List ℚ) → CanCarryFlows scale l.stated rate flows → AreFlowsWithin l.ranges.items (scaled_flow scale flows);
}
