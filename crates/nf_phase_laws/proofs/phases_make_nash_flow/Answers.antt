use Rattle.nf_phase_laws.proofs.Phases.{IsNashFlow-phases}
use Rattle.nf_phase_laws.proofs.phases_make_nash_flow.Goals as goal

pub returns : goal.returns
returns c = IsNashFlow-phases
