use Rattle.nf_phase_laws.proofs.Description.{DescribesLinks-start, DescribesLinks-lasts}
use Rattle.nf_phase_laws.proofs.phases_keep_description.Goals as goal

pub returns : goal.returns
returns c = record { begins = DescribesLinks-start; phase = DescribesLinks-lasts }
