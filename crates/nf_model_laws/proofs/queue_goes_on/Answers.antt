use Rattle.nf_model_laws.proofs.Step.{IsQueue-at_0, IsQueue-after}
use Rattle.nf_model_laws.proofs.queue_goes_on.Goals as goal

pub returns : goal.returns
returns c = record { begins = IsQueue-at_0; step = IsQueue-after }
