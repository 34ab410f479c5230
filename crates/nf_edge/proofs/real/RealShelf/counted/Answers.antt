use Rattle.std.proofs.Common.{rules}
use Rattle.nf_edge.proofs.real.RealShelf.counted.Goals as goal

pub returns-else-eq-clause-failed : goal.returns-else-eq-clause-failed
returns-else-eq-clause-failed g c = search rules
