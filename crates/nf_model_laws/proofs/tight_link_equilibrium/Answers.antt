use Rattle.nf_model_laws.proofs.MemberPoints.{Equilibrium-tight}
use Rattle.nf_model_laws.proofs.tight_link_equilibrium.Goals as goal

pub returns : goal.returns
returns c = Equilibrium-tight
