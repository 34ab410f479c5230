use Rattle.std.proofs.Common.{ℕ, ◌≤◌, sym, subst}
use Rattle.nf_linear.proofs.Grids.{cell_at}
use Rattle.nf_linear.proofs.grid_cells.GridCellsCells.at.Goals as goal

pub returns-then-column-self : goal.returns-then-column-self
returns-then-column-self g c =
    cell_at c.self.inside.cells c.args.self.now c.self.inside.right c.index-self-column.result c.self.inside.size c.args.column c.self.view_is c.if-column-self.true
    (subst (λ (n : ℕ). c.self.inside.size ≤ n) (sym c.self.told) c.self.invariant)
