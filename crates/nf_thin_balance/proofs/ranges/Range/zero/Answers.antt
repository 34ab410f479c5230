use Rattle.std.proofs.Common.{refl}
use Rattle.nf_thin_balance.proofs.Common.{0ℚ}
use Rattle.nf_thin_balance.proofs.Within.{within_zero}
use Rattle.nf_thin_balance.proofs.ranges.Range.zero.Goals as goal

pub returns : goal.returns
returns c = within_zero _ 0ℚ refl refl refl
