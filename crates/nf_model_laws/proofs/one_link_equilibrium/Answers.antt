use Rattle.nf_model_laws.proofs.MemberLink.{Equilibrium-one_link, FillsLink-equilibrium}
use Rattle.nf_model_laws.proofs.one_link_equilibrium.Goals as goal

pub returns : goal.returns
returns c = λ transit capacity pieces flow h c p. (FillsLink-equilibrium transit capacity pieces flow, Equilibrium-one_link transit capacity pieces flow h c p)
