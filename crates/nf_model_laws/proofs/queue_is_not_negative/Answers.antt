use Rattle.nf_model_laws.proofs.Queues.{IsQueue-nn, IsExit-after}
use Rattle.nf_model_laws.proofs.queue_is_not_negative.Goals as goal

pub returns : goal.returns
returns c = record { queue = IsQueue-nn; exit = IsExit-after }
