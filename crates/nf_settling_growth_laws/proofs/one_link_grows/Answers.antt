use Rattle.nf_settling_growth_laws.proofs.Growth.{one_link-grows}
use Rattle.nf_settling_growth_laws.proofs.one_link_grows.Goals as goal

pub returns : goal.returns
returns c = one_link-grows
