use Rattle.std.proofs.Common.{rules}
use Rattle.nf_report_lines.proofs.body.goes_on.Goals as goal

pub returns-then-is_word : goal.returns-then-is_word
returns-then-is_word c = search rules
