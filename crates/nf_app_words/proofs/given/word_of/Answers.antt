use Rattle.std.proofs.Common.{◌∙◌}
use Rattle.nf_app_words.proofs.Common.{found_of, first_value-rows}
use Rattle.nf_app_words.specs.CommandLine.{word_in}
use Rattle.nf_app_words.specs.MatchViews.{rows_in}
use Rattle.nf_app_words.proofs.given.word_of.Goals as goal

pub returns : goal.returns
unfolding word_in rows_in
returns c = c.get_str.ensures ∙ first_value-rows (found_of c.args.matches.now) c.args.name.now
