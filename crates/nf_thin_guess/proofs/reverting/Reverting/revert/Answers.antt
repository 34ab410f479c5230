use Rattle.std.proofs.Common.{◌∙◌}
use Rattle.nf_thin_guess.proofs.reverting.Reverting.revert.Goals as goal

pub is_one_pattern-requires-clause-other : goal.is_one_pattern-requires-clause-other
is_one_pattern-requires-clause-other c = c.requires.pattern.pattern_is.count ∙ c.requires.pattern.sets_are.count

pub is_one_pattern-requires-clause-one : goal.is_one_pattern-requires-clause-one
is_one_pattern-requires-clause-one c = c.revert_all_tight.ensures.pattern_is.count ∙ c.requires.pattern.sets_are.count
