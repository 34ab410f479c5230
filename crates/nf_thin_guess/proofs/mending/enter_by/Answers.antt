use Rattle.std.proofs.Common.{◌∙◌}
use Rattle.nf_thin_guess.proofs.mending.enter_by.Goals as goal

pub change-requires-clause-states : goal.change-requires-clause-states
change-requires-clause-states c = c.requires.pattern.1.pattern_is.count ∙ c.requires.pattern.1.sets_are.count

pub change-requires-2-clause-states : goal.change-requires-2-clause-states
change-requires-2-clause-states c = c.requires.pattern.1.pattern_is.count ∙ c.requires.pattern.1.sets_are.count

pub returns-then-grow : goal.returns-then-grow
returns-then-grow c = c.change.ensures

pub returns : goal.returns
returns c = c.change-2.ensures
