use Rattle.nf_net_laws.proofs.CanonicalBack.{canonical_back}
use Rattle.nf_net_laws.proofs.canonical_reads_back.Goals as goal

pub returns : goal.returns
returns c = canonical_back
