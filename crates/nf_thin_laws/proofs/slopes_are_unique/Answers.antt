use Rattle.nf_thin_laws.proofs.Slopes.{slopes-unique}
use Rattle.nf_thin_laws.proofs.slopes_are_unique.Goals as goal

pub returns : goal.returns
returns c = λ net sets rate flows slopes other_flows other_slopes good acyclic p q. slopes-unique net sets rate good acyclic flows slopes other_flows other_slopes p q
