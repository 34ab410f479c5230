use Rattle.std.proofs.Common.{◌∙◌, ap, false, codes, Option}
use Rattle.nf_app_words.proofs.Common.{option_map_or, bytes_eq, Text}
use Rattle.nf_app_words.specs.Commands.{is_flagged}
use Rattle.nf_app_words.proofs.given.is_flagged.Goals as goal

pub returns-in-Some : goal.returns-in-Some
unfolding is_flagged
returns-in-Some c = c.eq.ensures ∙ ap (λ (o : Option Text). option_map_or (λ (word : Text). bytes_eq word (codes "true")) o false) c.in-Some.ensures

pub returns-in-None : goal.returns-in-None
unfolding is_flagged
returns-in-None c = ap (λ (o : Option Text). option_map_or (λ (word : Text). bytes_eq word (codes "true")) o false) c.in-None.ensures
