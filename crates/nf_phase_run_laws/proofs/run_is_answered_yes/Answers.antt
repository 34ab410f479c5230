use Rattle.nf_phase_run_laws.proofs.Common.{report_equilibrium}
use Rattle.nf_phase_run_laws.proofs.Verdicts.{answered_yes}
use Rattle.nf_phase_run_laws.proofs.run_is_answered_yes.Goals as goal

pub returns : goal.returns
returns c = λ running checking net bounds report answer good run e. answered_yes checking net report.flow answer good (report_equilibrium running net good bounds report run) e
