use Rattle.std.proofs.Common.{pos}
use Rattle.nf_thin_balance.proofs.Common.{0ℚ, ≤ℚ_antisymm}
use Rattle.nf_thin_balance.proofs.ranges.Range.is_nothing.Goals as goal

pub returns : goal.returns
returns c told x within =
    ≤ℚ_antisymm x 0ℚ (within.up_to (pos 0) (c.is_zero_end.ensures c.if-not-is_zero_end.false)) (within.from (pos 0) (c.is_zero_end-2.ensures told))
