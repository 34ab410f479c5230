use Rattle.nf_phase_laws.proofs.Run.{report_equilibrium}
use Rattle.nf_phase_laws.proofs.run_report_is_equilibrium.Goals as goal

pub returns : goal.returns
returns c = λ passes net bounds report good run. report_equilibrium passes net good bounds report run
