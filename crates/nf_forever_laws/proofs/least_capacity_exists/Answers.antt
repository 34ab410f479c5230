use Rattle.nf_forever_laws.proofs.LeastCut.{least_exists}
use Rattle.nf_forever_laws.proofs.least_capacity_exists.Goals as goal

pub returns : goal.returns
returns c = λ net good. least_exists net good
