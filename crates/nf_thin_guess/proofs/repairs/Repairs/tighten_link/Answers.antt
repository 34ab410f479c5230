use Rattle.std.proofs.Common.{◌∙◌}
use Rattle.nf_thin_guess.proofs.repairs.Repairs.tighten_link.Goals as goal

pub change-requires-clause-link : goal.change-requires-clause-link
change-requires-clause-link c = c.requires.link

pub change-requires-clause-states : goal.change-requires-clause-states
change-requires-clause-states c = c.requires.pattern.pattern_is.count ∙ c.requires.pattern.sets_are.count

pub returns : goal.returns
returns c = c.change.ensures c.args.self.now.sets.now c.requires.pattern
