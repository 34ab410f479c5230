use Rattle.std.proofs.Common.{◌∙◌}
use Rattle.nf_thin_guess.proofs.reverting.Reverting.revert_tight.Goals as goal

pub set_state-requires-clause-link : goal.set_state-requires-clause-link
set_state-requires-clause-link c = c.requires.link

pub set_state-requires-clause-states : goal.set_state-requires-clause-states
set_state-requires-clause-states c = c.requires.pattern.pattern_is.count ∙ c.requires.pattern.sets_are.count

pub returns-then-grow : goal.returns-then-grow
returns-then-grow c = c.set_state.ensures c.args.self.now.sets.now c.requires.pattern
