use Rattle.nf_phase_run_laws.proofs.OneResumed.{one_resumed}
use Rattle.nf_phase_run_laws.proofs.resumed_run_has_one_report.Goals as goal

pub returns : goal.returns
returns c = λ passes net bounds old phases others report other knows h k. one_resumed passes net bounds old phases others report other knows h k
