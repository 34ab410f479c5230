use Rattle.std.proofs.Common.{[], ◌++◌, ◌∙◌, codes}
use Rattle.nf_app_answers.proofs.Common.{digits_of}
use Rattle.nf_app_answers.proofs.ErrorTexts.{rule_pieces, same_text}
use Rattle.nf_app_answers.proofs.telling.write_broken.Goals as goal

pub returns : goal.returns
returns g c =
    same_text (codes "nfot: " ++ (c.args.file.now ++ (codes " line " ++ (c.text.result.now ++ (codes ": " ++ (c.args.rule.now ++ (codes "\n" ++ []))))))) _
    ((cc) ∙ rule_pieces c.args.file.now (digits_of c.args.line) c.args.rule.now) c.write_texts.ensures
