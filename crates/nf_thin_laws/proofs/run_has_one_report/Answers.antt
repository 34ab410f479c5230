use Rattle.nf_thin_laws.proofs.OneRun.{one_report}
use Rattle.nf_thin_laws.proofs.run_has_one_report.Goals as goal

pub returns : goal.returns
returns c = one_report
