use Rattle.std.proofs.Common.{◌∙◌}
use Rattle.nf_thin_guess.proofs.mending.keep_or_loosen.Goals as goal

pub set_state-requires-clause-states : goal.set_state-requires-clause-states
set_state-requires-clause-states c = c.requires.pattern.1.pattern_is.count ∙ c.requires.pattern.1.sets_are.count

pub returns : goal.returns
returns c = c.set_state.ensures
