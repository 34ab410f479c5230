use Rattle.std.proofs.Common.{[], ◌++◌, ◌∙◌, codes}
use Rattle.nf_app_answers.proofs.Common.{digits_of}
use Rattle.nf_app_answers.proofs.ErrorTexts.{augments_pieces, same_text}
use Rattle.nf_app_answers.proofs.telling.write_over_budget.Goals as goal

pub returns : goal.returns
returns g c =
    same_text (codes "nfot: augments " ++ (c.text.result.now ++ (codes "\n" ++ []))) _ ((cc) ∙ augments_pieces (digits_of c.args.augments)) c.write_texts.ensures
