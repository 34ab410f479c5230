use Rattle.std.proofs.Common.{ap, ◌∙◌}
use Rattle.nf_thin_one.proofs.Common.{all_zero}
use Rattle.nf_thin_one.proofs.SmallTables.{small_found}
use Rattle.nf_thin_one.proofs.trying.small_solution.Goals as goal

pub fill-requires-clause-zero : goal.fill-requires-clause-zero
fill-requires-clause-zero c = c.in_ok-table.ensures {u = tt} ∙ ap all_zero c.unknown_count.ensures.count

pub returns : goal.returns
returns c = small_found _ _ c.fill.ensures c.solve_small.result c.solve_small.ensures.wide
