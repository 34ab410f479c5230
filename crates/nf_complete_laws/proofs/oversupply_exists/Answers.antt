use Rattle.nf_complete_laws.proofs.Supplied.{IsOversupply-some}
use Rattle.nf_complete_laws.proofs.oversupply_exists.Goals as goal

pub returns : goal.returns
returns c = IsOversupply-some
