use Rattle.nf_model_laws.proofs.Exits.{IsOutflow-at_exit}
use Rattle.nf_model_laws.proofs.first_in_first_out.Goals as goal

pub returns : goal.returns
returns c = IsOutflow-at_exit
