use Rattle.nf_frac.proofs.Form.{num_plain}
use Rattle.nf_frac.proofs.lowest.Lowest.numer.Goals as goal

pub returns-clause-value : goal.returns-clause-value
returns-clause-value c = num_plain c.self.invariant c.self.view_is
