use Rattle.nf_phase_run_laws.proofs.Verdicts.{answered_yes}
use Rattle.nf_phase_run_laws.proofs.equilibrium_is_answered_yes.Goals as goal

pub returns : goal.returns
returns c = λ passes net flow answer good eq e. answered_yes passes net flow answer good eq e
