use Rattle.nf_phase_run_laws.proofs.ReadingBack.{reads_back}
use Rattle.nf_phase_run_laws.proofs.run_report_reads_back.Goals as goal

pub returns : goal.returns
returns c = λ n bounds report named within formed run. reads_back n bounds report named within formed run
