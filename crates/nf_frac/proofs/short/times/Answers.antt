use Rattle.nf_frac.proofs.SmallParts.{cast_product_fits, cast_product}
use Rattle.nf_frac.proofs.short.times.Goals as goal

pub overflow_mul-result : goal.overflow_mul-result
overflow_mul-result c = cast_product_fits c.args.a c.args.b c.requires.small c.requires.short

pub returns : goal.returns
returns c = cast_product c.args.a c.args.b c.requires.small c.requires.short
