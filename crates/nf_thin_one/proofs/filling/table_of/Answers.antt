use Rattle.std.proofs.Common.{ap, ◌∙◌}
use Rattle.nf_thin_one.proofs.Common.{all_zero}
use Rattle.nf_thin_one.proofs.Held.{all_held}
use Rattle.nf_thin_one.proofs.filling.table_of.Goals as goal

pub fill-requires-clause-zero : goal.fill-requires-clause-zero
fill-requires-clause-zero c = c.in_ok-table.ensures {u = tt} ∙ ap all_zero c.unknown_count.ensures.count

pub fill-requires-clause-sets : goal.fill-requires-clause-sets
fill-requires-clause-sets c = c.requires.sets

pub fill-requires-clause-states : goal.fill-requires-clause-states
fill-requires-clause-states c = c.requires.states

pub fill-requires-clause-numbers : goal.fill-requires-clause-numbers
fill-requires-clause-numbers c = all_held c.args.net.now.net c.args.rate
