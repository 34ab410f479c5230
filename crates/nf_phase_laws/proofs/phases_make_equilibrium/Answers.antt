use Rattle.nf_phase_laws.proofs.CurveRun.{Equilibrium-phases}
use Rattle.nf_phase_laws.proofs.phases_make_equilibrium.Goals as goal

pub returns : goal.returns
returns c = Equilibrium-phases
