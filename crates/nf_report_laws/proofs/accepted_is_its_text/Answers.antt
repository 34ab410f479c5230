use Rattle.nf_report_laws.proofs.ReportKept.{report_kept}
use Rattle.nf_report_laws.proofs.accepted_is_its_text.Goals as goal

pub returns : goal.returns
returns c = λ n text report named e. report_kept n text report named e
