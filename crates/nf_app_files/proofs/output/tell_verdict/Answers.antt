use Rattle.std.proofs.Common.{sym, ap}
use Rattle.nf_app_answers.specs.Answers.{text_of_verdict}
use Rattle.nf_app_files.proofs.Statuses.{took_same, took_text}
use Rattle.nf_app_files.proofs.output.tell_verdict.Goals as goal

pub returns-in-No-clause-told : goal.returns-in-No-clause-told
returns-in-No-clause-told g c = took_same _ _ _ (sym (ap text_of_verdict c.in-No.is)) (took_text _ _ _ c.write_text.result c.write_text.ensures)
