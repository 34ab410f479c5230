use Rattle.std.proofs.Common.{◌∙◌, ap, false, Option}
use Rattle.nf_app_words.proofs.Common.{option_map_or, bytes_eq, Text}
use Rattle.nf_app_words.specs.Commands.{is_named}
use Rattle.nf_app_words.proofs.given.is_named.Goals as goal

pub returns-in-Some : goal.returns-in-Some
unfolding is_named
returns-in-Some c = c.eq.ensures ∙ ap (λ (o : Option Text). option_map_or (λ (word : Text). bytes_eq word c.args.name.now) o false) c.in-Some.ensures

pub returns-in-None : goal.returns-in-None
unfolding is_named
returns-in-None c = ap (λ (o : Option Text). option_map_or (λ (word : Text). bytes_eq word c.args.name.now) o false) c.in-None.ensures
