use Rattle.std.proofs.Common.{rules}
use Rattle.nf_frac.proofs.fraction.Frac.small_pair.Goals as goal

pub returns : goal.returns
returns g c = search rules
