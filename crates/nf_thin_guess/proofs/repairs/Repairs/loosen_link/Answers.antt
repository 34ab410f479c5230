use Rattle.std.proofs.Common.{◌∙◌}
use Rattle.nf_thin_guess.proofs.repairs.Repairs.loosen_link.Goals as goal

pub change-requires-2-clause-link : goal.change-requires-2-clause-link
change-requires-2-clause-link c = c.requires.link

pub change-requires-clause-link : goal.change-requires-clause-link
change-requires-clause-link c = c.requires.link

pub is_spare-requires-clause-link : goal.is_spare-requires-clause-link
is_spare-requires-clause-link c = c.requires.link

pub change-requires-clause-states : goal.change-requires-clause-states
change-requires-clause-states c = c.requires.pattern.pattern_is.count ∙ c.requires.pattern.sets_are.count

pub change-requires-2-clause-states : goal.change-requires-2-clause-states
change-requires-2-clause-states c = c.requires.pattern.pattern_is.count ∙ c.requires.pattern.sets_are.count

pub returns-then-lt : goal.returns-then-lt
returns-then-lt c = c.change.ensures c.args.self.now.sets.now c.requires.pattern

pub returns : goal.returns
returns c = c.change-2.ensures c.args.self.now.sets.now c.requires.pattern
