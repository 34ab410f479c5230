use Rattle.std.proofs.Common.{[], ◌∷◌, sym, ap, codes}
use Rattle.nf_app_answers.proofs.Common.{option_copied, cause_words, same_lines}
use Rattle.nf_app_answers.proofs.gen_text.write_cause.Goals as goal

pub returns-in-None : goal.returns-in-None
returns-in-None g c = same_lines _ _ (sym (ap (λ (s : _). (codes "cause" ∷ cause_words (option_copied s)) ∷ []) c.in-None.is)) c.write_line.ensures

pub returns-in-Some : goal.returns-in-Some
returns-in-Some g c = same_lines _ _ (sym (ap (λ (s : _). (codes "cause" ∷ cause_words (option_copied s)) ∷ []) c.in-Some.is)) c.write_stop.ensures
