use Rattle.std.proofs.Common.{rules}
use Rattle.nf_frac.proofs.SmallParts.{wide_total_is}
use Rattle.nf_frac.proofs.short.wide_sum.Goals as goal

pub returns : goal.returns
returns c = let h = wide_total_is c.args.a c.args.b c.requires.left c.requires.right in search rules
