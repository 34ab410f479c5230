use Rattle.nf_app_words.specs.Requests.{patterns_in}
use Rattle.nf_app_words.proofs.numbers.patterns_of.Goals as goal

pub returns : goal.returns
unfolding patterns_in
returns c = c.usual_or_count_of.ensures
