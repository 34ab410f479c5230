use Rattle.nf_phase_laws.proofs.Run.{run_shape}
use Rattle.nf_phase_laws.proofs.run_has_shape.Goals as goal

pub returns : goal.returns
returns c = λ passes net bounds last stop good run. run_shape passes net good bounds last stop run
