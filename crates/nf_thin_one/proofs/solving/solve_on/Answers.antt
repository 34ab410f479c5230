use Rattle.std.proofs.Common.{rules, List, length, sym, ap, ◌∙◌}
use Rattle.nf_thin_one.proofs.Common.{Row}
use Rattle.nf_thin_one.proofs.EquationRows.{as_many_rows}
use Rattle.nf_thin_one.proofs.Held.{all_held}
use Rattle.nf_thin_one.proofs.solving.solve_on.Goals as goal

pub solve_grid-requires : goal.solve_grid-requires
solve_grid-requires g c = (
  search rules,
  c.requires.values ∙ c.requires.count
      ∙ (sym (as_many_rows c.args.net.now.net c.args.sets.now c.args.rate c.args.pattern.now c.requires.pattern.network.sink c.requires.pattern.sets_are.count)
      ∙ ap (λ (rows : List Row). length rows) (sym c.fill.ensures)),
)

pub fill-requires-clause-numbers : goal.fill-requires-clause-numbers
fill-requires-clause-numbers g c = all_held c.args.net.now.net c.args.rate
