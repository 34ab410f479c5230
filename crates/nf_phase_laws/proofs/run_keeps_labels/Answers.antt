use Rattle.nf_phase_laws.proofs.ShortRun.{run_keeps}
use Rattle.nf_phase_laws.proofs.run_keeps_labels.Goals as goal

pub returns : goal.returns
returns c = λ passes net bounds last stop good run. run_keeps passes net good bounds last stop run
