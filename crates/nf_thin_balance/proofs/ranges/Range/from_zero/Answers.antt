use Rattle.nf_thin_balance.proofs.Within.{from_zero}
use Rattle.nf_thin_balance.proofs.ranges.Range.from_zero.Goals as goal

pub returns : goal.returns
returns c x h up_to = record { from = from_zero x h; up_to = up_to }
