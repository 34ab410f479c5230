use Rattle.std.proofs.Common.{◌≡◌, ◌∙◌, ap, refl, Option, Some, None, is_some}
use Rattle.nf_app_words.proofs.Common.{Bor, Text, text_in}
use Rattle.nf_app_words.specs.Commands.{is_there}
use Rattle.nf_app_words.proofs.given.is_there.Goals as goal

same_there : (word : Option (Bor Text)) → is_some word ≡ is_some (text_in word)
same_there None = refl
same_there (Some word) = refl

pub returns : goal.returns
unfolding is_there
returns c = c.is_some.ensures ∙ same_there c.word_of.result ∙ ap is_some c.word_of.ensures
