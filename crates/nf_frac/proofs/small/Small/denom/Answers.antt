use Rattle.std.proofs.Common.{sym}
use Rattle.nf_frac.proofs.SmallParts.{short_parts}
use Rattle.nf_frac.proofs.small.Small.denom.Goals as goal

pub returns-clause-value : goal.returns-clause-value
returns-clause-value c = sym (short_parts c.self.invariant c.self.view_is).den
