use Rattle.std.proofs.Common.{sym}
use Rattle.nf_thin_guess.proofs.repairs.is_spare.Goals as goal

pub may_carry-requires-clause-sets : goal.may_carry-requires-clause-sets
may_carry-requires-clause-sets c = sym c.requires.pattern.pattern_is.count
