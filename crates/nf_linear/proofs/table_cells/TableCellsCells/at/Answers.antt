use Rattle.std.proofs.Common.{List, ap, ◌∙◌}
use Rattle.nf_linear.proofs.Common.{ℚ, number_at}
use Rattle.nf_linear.proofs.Changed.{cell_read, cells_below}
use Rattle.nf_linear.proofs.table_cells.TableCellsCells.at.Goals as goal

pub returns : goal.returns
returns g c =
    cell_read g.S.Scalar.means c.self.inside.cells.items c.args.column c.index.result.now
    (cells_below g.S.Scalar.means c.self.inside.cells.items c.args.self.now c.args.column c.self.view_is c.requires) c.index.ensures
    ∙ ap (λ (row : List ℚ). number_at row c.args.column) c.self.view_is
