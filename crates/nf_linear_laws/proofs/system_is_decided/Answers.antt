use Rattle.nf_linear_laws.proofs.Projection.{decided}
use Rattle.nf_linear_laws.proofs.system_is_decided.Goals as goal

pub returns : goal.returns
returns c = λ system. decided system
