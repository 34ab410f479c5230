use Rattle.std.proofs.Common.{rules}
use Rattle.nf_thin_balance.proofs.Within.{around}
use Rattle.nf_thin_balance.proofs.ranges.ends_meet.Goals as goal

pub returns : goal.returns
returns c x from up_to = let h = around c.in-Some.least c.in-Some-greatest.greatest x (from _ c.in-Some.is) (up_to _ c.in-Some-greatest.is) in search rules
