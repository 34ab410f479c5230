use Rattle.std.proofs.Common.{[], ◌∷◌, sym, ap, ◌∙◌}
use Rattle.nf_report_lines.proofs.Common.{passed_cause}
use Rattle.nf_report_lines.proofs.WordCounts.{six_behind}
use Rattle.nf_report_lines.proofs.causes.read_passed.Goals as goal

pub returns : goal.returns
returns c =
    c.read_operation.ensures
    ∙ (λ i. passed_cause (c.at.ensures i ∷ c.at-2.ensures i ∷ c.at-3.ensures i ∷ c.at-4.ensures i ∷ c.at-5.ensures i ∷ c.at-6.ensures i ∷ []))
    ∙ ap passed_cause (sym (six_behind c.args.line.now.words (sym c.len.ensures ∙ c.if-len-ne8.false)))
