use Rattle.nf_phase_run_laws.proofs.Reading.{resumed_reads_back}
use Rattle.nf_phase_run_laws.proofs.resumed_report_reads_back.Goals as goal

pub returns : goal.returns
returns c = λ n text bounds old phases report named within read formed resumed. resumed_reads_back n named bounds within old phases report text read formed resumed
