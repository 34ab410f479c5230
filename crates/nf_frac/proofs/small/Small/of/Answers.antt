use Rattle.nf_frac.proofs.SmallParts.{stored}
use Rattle.nf_frac.proofs.small.Small.of.Goals as goal

pub returns-clause-small : goal.returns-clause-small
returns-clause-small c = stored c.args.num c.args.den c.requires
