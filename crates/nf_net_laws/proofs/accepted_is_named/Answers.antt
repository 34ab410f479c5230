use Rattle.nf_net_laws.proofs.AcceptedNamed.{accepted_named}
use Rattle.nf_net_laws.proofs.accepted_is_named.Goals as goal

pub returns : goal.returns
returns c = accepted_named
