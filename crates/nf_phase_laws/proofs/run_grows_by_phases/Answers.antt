use Rattle.nf_phase_laws.proofs.Run.{run_grows}
use Rattle.nf_phase_laws.proofs.run_grows_by_phases.Goals as goal

pub returns : goal.returns
returns c = λ passes net bounds last stop good run. run_grows passes net good bounds last stop run
