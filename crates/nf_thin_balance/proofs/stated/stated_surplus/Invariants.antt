use Rattle.std.proofs.Common.{ℕ, List}
use Rattle.nf_thin_balance.proofs.Common.{ℚ, IsInRange, surplus_of_first, scaled_flow, CanCarryFlows}
use Rattle.nf_thin_balance.proofs.stated.stated_surplus.Given as goal

-- The surplus on the links so far is in the range.
abbrev pub invariant-loop-e : goal.invariant-loop-e
invariant-loop-e l = (scale : ℕ) (rate : ℚ) (flows : List ℚ) → CanCarryFlows scale l.stated rate flows
    → IsInRange l.range (surplus_of_first l.stated.net.now.net (scaled_flow scale flows) l.node l.e)
