use Rattle.std.proofs.Common.{sym, ap, ◌∙◌}
use Rattle.nf_report_laws.proofs.Common.{report_in, same_Ok}
use Rattle.nf_report_laws.proofs.ReportBack.{report_back}
use Rattle.nf_report_laws.proofs.ReportFit.{fit}
use Rattle.nf_report_laws.proofs.texts_differ.Goals as goal

pub returns : goal.returns
returns c = λ n one other named h r k s e.
    same_Ok one other (sym (report_back n one named (fit n one named h r)) ∙ ap (report_in n) e ∙ report_back n other named (fit n other named k s))
