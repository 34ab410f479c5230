use Rattle.nf_settling_growth_laws.proofs.Decides.{graded_flow-decides}
use Rattle.nf_settling_growth_laws.proofs.graded_flow_decides.Goals as goal

pub returns : goal.returns
returns c = graded_flow-decides
