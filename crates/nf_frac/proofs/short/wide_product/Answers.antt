use Rattle.std.proofs.Common.{rules}
use Rattle.nf_frac.proofs.SmallParts.{wide_product_is}
use Rattle.nf_frac.proofs.short.wide_product.Goals as goal

pub returns : goal.returns
returns c = let h = wide_product_is c.args.a c.args.b c.requires.left c.requires.right in search rules
