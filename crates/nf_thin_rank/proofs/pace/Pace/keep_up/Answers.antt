use Rattle.std.proofs.Common.{◌∙◌}
use Rattle.nf_thin_rank.proofs.pace.Pace.keep_up.Goals as goal

pub is_early-requires-clause-pattern : goal.is_early-requires-clause-pattern
is_early-requires-clause-pattern c = c.requires.listed.states.count ∙ c.requires.ranking.sets.sets_are.count

pub is_late-requires-clause-pattern : goal.is_late-requires-clause-pattern
is_late-requires-clause-pattern c = c.requires.listed.states.count ∙ c.requires.ranking.sets.sets_are.count
