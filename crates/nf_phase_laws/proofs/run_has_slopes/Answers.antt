use Rattle.nf_phase_laws.proofs.Run.{run_slopes}
use Rattle.nf_phase_laws.proofs.run_has_slopes.Goals as goal

pub returns : goal.returns
returns c = λ passes net bounds last stop good run. run_slopes passes net good bounds last stop run
