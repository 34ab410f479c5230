use Rattle.std.proofs.Common.{◌∙◌, arith}
use Rattle.nf_frac.proofs.Made.{short_natural, short_natural_value}
use Rattle.nf_frac.proofs.small_scalar.SmallScalar.one.Goals as goal

pub of-requires : goal.of-requires
of-requires c = short_natural 1 (omega arith)

pub returns : goal.returns
returns c = c.of.ensures.value ∙ short_natural_value 1
