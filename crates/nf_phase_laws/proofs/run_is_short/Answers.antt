use Rattle.nf_phase_laws.proofs.ShortRun.{run_short, report_short}
use Rattle.nf_phase_laws.proofs.run_is_short.Goals as goal

pub returns : goal.returns
returns c = record {
  run = λ passes net bounds last stop good run. run_short passes net good bounds last stop run;
  report = λ passes net bounds report good run. report_short passes net good bounds report run;
}
