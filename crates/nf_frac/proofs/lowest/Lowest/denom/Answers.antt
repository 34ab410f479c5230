use Rattle.std.proofs.Common.{sym}
use Rattle.nf_frac.proofs.Form.{parts_of}
use Rattle.nf_frac.proofs.lowest.Lowest.denom.Goals as goal

pub returns-clause-value : goal.returns-clause-value
returns-clause-value c = sym (parts_of c.self.invariant c.self.view_is).den
