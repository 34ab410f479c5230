use Rattle.nf_unique_laws.proofs.Exits.{SameInAll-equilibrium}
use Rattle.nf_unique_laws.proofs.equilibrium_is_same_in_all.Goals as goal

pub returns : goal.returns
returns c = λ net flow good is. SameInAll-equilibrium net flow good is
