use Rattle.nf_frac.proofs.SmallParts.{short_num}
use Rattle.nf_frac.proofs.small.Small.numer.Goals as goal

pub returns-clause-value : goal.returns-clause-value
returns-clause-value c = short_num c.self.invariant c.self.view_is
