use Rattle.nf_net_laws.proofs.Once.{reads_at_most_once}
use Rattle.nf_net_laws.proofs.reads_once.Goals as goal

pub returns : goal.returns
returns c = reads_at_most_once
