use Rattle.std.proofs.Common.{map, set, sym, ap, subst, ◌∙◌}
use Rattle.nf_linear.proofs.Common.{map-set, Row, AreZeroUnless}
use Rattle.nf_linear.proofs.Covering.{zero_kept}
use Rattle.nf_linear.proofs.table_cells.TableCellsCells.set.Goals as goal

pub invariant_of-self : goal.invariant_of-self
invariant_of-self g c =
    subst (λ (row : Row). AreZeroUnless c.put.new.self row) (sym (map-set g.S.Scalar.means c.self.inside.cells.items c.args.column c.args.value))
    (zero_kept c.self.inside.some c.put.new.self c.args.column (map g.S.Scalar.means c.self.inside.cells.items)
    (g.S.Scalar.means c.args.value) c.put.ensures.kept c.put.ensures.put c.self.invariant)

pub returns : goal.returns
returns g c = map-set g.S.Scalar.means c.self.inside.cells.items c.args.column c.args.value ∙ ap (λ l. set l c.args.column (g.S.Scalar.means c.args.value)) c.self.view_is
