use Rattle.nf_complete_laws.proofs.Supplied.{IsOversupply-some}
use Rattle.nf_complete_laws.proofs.Exists.{thin_exists}
use Rattle.nf_complete_laws.proofs.thin_flow_exists.Goals as goal

pub returns : goal.returns
returns c = thin_exists IsOversupply-some
