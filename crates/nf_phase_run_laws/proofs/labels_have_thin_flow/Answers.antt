use Rattle.nf_phase_run_laws.proofs.AtLabels.{thin_in_equilibrium, thin_after_run, thin_after_resumed, thin_after_forever}
use Rattle.nf_phase_run_laws.proofs.Sequences.{thin_in_sequence}
use Rattle.nf_phase_run_laws.proofs.labels_have_thin_flow.Goals as goal

pub returns : goal.returns
returns c = record {
  equilibrium = thin_in_equilibrium;
  sequence = λ net horizon phases place departure labels good is here. thin_in_sequence net good horizon phases place departure labels is here;
  run = λ passes net bounds last stop good run. thin_after_run passes net good bounds last stop run;
  resumed = λ passes net bounds old last stop good formed run. thin_after_resumed passes net good bounds old last stop formed run;
  forever = λ passes net phases patterns last end good run. thin_after_forever passes net good phases patterns last end run;
}
