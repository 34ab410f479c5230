use Rattle.nf_settling_graded_laws.proofs.Exists.{graded_flow-exists}
use Rattle.nf_settling_graded_laws.proofs.graded_flow_exists.Goals as goal

pub returns : goal.returns
returns c = graded_flow-exists
