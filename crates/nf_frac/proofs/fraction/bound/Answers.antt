use Rattle.std.proofs.Common.{arith}
use Rattle.nf_frac.proofs.Made.{shifted}
use Rattle.nf_frac.proofs.fraction.bound.Goals as goal

pub returns-clause-small : goal.returns-clause-small
returns-clause-small c = shifted c.max.result (omega (arith, c.max.ensures, c.min.ensures))
