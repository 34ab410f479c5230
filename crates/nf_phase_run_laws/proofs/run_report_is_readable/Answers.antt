use Rattle.nf_phase_run_laws.proofs.Running.{report_readable}
use Rattle.nf_phase_run_laws.proofs.run_report_is_readable.Goals as goal

pub returns : goal.returns
returns c = λ n bounds report named within run. report_readable n named bounds within report run
