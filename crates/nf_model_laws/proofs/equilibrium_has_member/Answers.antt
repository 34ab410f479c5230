use Rattle.nf_model_laws.proofs.Member.{has_member}
use Rattle.nf_model_laws.proofs.equilibrium_has_member.Goals as goal

pub returns : goal.returns
returns c = has_member
