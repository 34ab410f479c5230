use Rattle.nf_model_laws.proofs.MemberPoints.{Equilibrium-full}
use Rattle.nf_model_laws.proofs.full_link_equilibrium.Goals as goal

pub returns : goal.returns
returns c = Equilibrium-full
