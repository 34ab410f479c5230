use Rattle.nf_phase_run_laws.proofs.Ends.{run-restored}
use Rattle.nf_phase_run_laws.proofs.run_is_restored.Goals as goal

pub returns : goal.returns
returns c = λ passes net bounds last first stop good run list. run-restored passes net good bounds last first stop run list
