use Rattle.nf_model_laws.proofs.Queues.{IsExit-monotone}
use Rattle.nf_model_laws.proofs.exit_never_falls.Goals as goal

pub returns : goal.returns
returns c = IsExit-monotone
