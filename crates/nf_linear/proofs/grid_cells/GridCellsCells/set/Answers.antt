use Rattle.std.proofs.Common.{ℕ, ◌≤◌, List, set, take, sym, ap, subst, ◌∙◌, length-take-le}
use Rattle.nf_linear.proofs.Common.{ℚ}
use Rattle.nf_linear.proofs.Grids.{row_set_cell, row_set_right, row_long, last_column}
use Rattle.nf_linear.proofs.grid_cells.GridCellsCells.set.Goals as goal

pub returns-then-column-self : goal.returns-then-column-self
returns-then-column-self g c =
    let fits = subst (λ (n : ℕ). c.self.inside.size ≤ n) (sym c.self.told) c.self.invariant in
    row_set_cell c.self.inside.cells c.self.inside.right c.args.value c.self.inside.size c.args.column c.if-column-self.true fits
    ∙ ap (λ (l : List ℚ). set l c.args.column c.args.value) c.self.view_is

pub returns-else-column-self : goal.returns-else-column-self
returns-else-column-self g c =
    let fits = subst (λ (n : ℕ). c.self.inside.size ≤ n) (sym c.self.told) c.self.invariant in
    let whole = row_long c.self.inside.cells c.args.self.now c.self.inside.right c.self.inside.size c.self.view_is fits in
    let front = length-take-le c.self.inside.size c.self.inside.cells fits in
    row_set_right (take c.self.inside.size c.self.inside.cells) c.self.inside.right c.args.value c.args.column
    (last_column c.args.column c.self.inside.size _ _ c.requires whole c.if-column-self.false front)
    ∙ ap (λ (l : List ℚ). set l c.args.column c.args.value) c.self.view_is
