use Rattle.std.proofs.Common.{rules}
use Rattle.nf_report_lines.proofs.numbers.any_number.Goals as goal

pub returns-in-Ok : goal.returns-in-Ok
returns-in-Ok c = search rules
