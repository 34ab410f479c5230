use Rattle.nf_phase_laws.proofs.Description.{IsOutflow-described, IsQueue-described}
use Rattle.nf_phase_laws.proofs.description_is_right.Goals as goal

pub returns : goal.returns
returns c = record { outflows = IsOutflow-described; queues = IsQueue-described }
