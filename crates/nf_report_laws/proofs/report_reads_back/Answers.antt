use Rattle.nf_report_laws.proofs.ReportBack.{report_back}
use Rattle.nf_report_laws.proofs.ReportFit.{fit}
use Rattle.nf_report_laws.proofs.report_reads_back.Goals as goal

pub returns : goal.returns
returns c = λ n report named h r. report_back n report named (fit n report named h r)
