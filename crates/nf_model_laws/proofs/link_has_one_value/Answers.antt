use Rattle.nf_model_laws.proofs.Queues.{IsQueue-unique, IsExit-unique, IsOutflow-unique}
use Rattle.nf_model_laws.proofs.link_has_one_value.Goals as goal

pub returns : goal.returns
returns c = record { queue = IsQueue-unique; exit = IsExit-unique; outflow = IsOutflow-unique }
