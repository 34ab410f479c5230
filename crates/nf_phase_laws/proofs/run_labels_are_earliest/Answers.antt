use Rattle.nf_phase_laws.proofs.Arrivals.{run_earliest, report_earliest}
use Rattle.nf_phase_laws.proofs.run_labels_are_earliest.Goals as goal

pub returns : goal.returns
returns c = record {
  run = λ passes net bounds last stop good run. run_earliest passes net good bounds last stop run;
  report = λ passes net bounds report good run. report_earliest passes net good bounds report run;
}
