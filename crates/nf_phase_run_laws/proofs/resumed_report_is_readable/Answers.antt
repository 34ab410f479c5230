use Rattle.nf_phase_run_laws.proofs.Reading.{resumed_readable}
use Rattle.nf_phase_run_laws.proofs.resumed_report_is_readable.Goals as goal

pub returns : goal.returns
returns c = λ n bounds old phases report named within formed can resumed. resumed_readable n named bounds within old phases report formed can resumed
