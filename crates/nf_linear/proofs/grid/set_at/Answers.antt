use Rattle.std.proofs.Common.{◌<◌, length, set, sym, subst, ap, ◌∙◌}
use Rattle.nf_linear.proofs.Common.{Row}
use borrow.Author.Rules.{scaled_Fits}
use Rattle.nf_linear.proofs.Clearing.{row_got}
use Rattle.nf_linear.proofs.grid.set_at.Goals as goal

pub returns : goal.returns
returns g c =
    ap (λ (r : Row). set c.args.rows.now c.args.row r) (c.set.ensures ∙ ap (λ (r : Row). set r c.args.column c.args.value)
    (row_got c.args.rows.now c.args.row c.index-rows-row.result c.requires.row))

pub bounds-rows-row : goal.bounds-rows-row
bounds-rows-row g c = c.requires.row

pub set-requires : goal.set-requires
set-requires g c =
    subst (λ (r : Row). c.args.column < length r) (sym (row_got c.args.rows.now c.args.row c.index-rows-row.result c.requires.row)) c.requires.column

pub offset_bounds-rows-row : goal.offset_bounds-rows-row
offset_bounds-rows-row g c = let b = c.requires.row in search scaled_Fits
