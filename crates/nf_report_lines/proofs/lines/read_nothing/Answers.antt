use Rattle.std.proofs.Common.{ap, Result}
use Rattle.nf_report_lines.proofs.Common.{ReportRule, nothing_more, Entry, drafted}
use Rattle.nf_side.specs.Said.{said_by}
use Rattle.nf_report_lines.proofs.lines.read_nothing.Goals as goal

pub returns-in-Ok-clause-says : goal.returns-in-Ok-clause-says
returns-in-Ok-clause-says c = λ n draft. ap (λ (said : Result Entry ReportRule). nothing_more (said_by (drafted n draft) said)) c.in-Ok.is
