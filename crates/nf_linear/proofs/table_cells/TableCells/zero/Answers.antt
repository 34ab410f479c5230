use Rattle.std.proofs.Common.{map, sym, ap, subst, ◌∙◌}
use Rattle.nf_linear.proofs.Common.{0ℚ, Row, AreZeroUnless}
use Rattle.nf_model.proofs.Entries.{number_at-zeros}
use Rattle.nf_linear.proofs.Filled.{copies_mapped}
use Rattle.nf_linear.proofs.table_cells.TableCells.zero.Goals as goal

pub returns : goal.returns
returns g c = ap (map g.S.Scalar.means) c.in_ok-cells.ensures ∙ copies_mapped g.S.Scalar.means c.args.len c.zero.result 0ℚ c.zero.ensures

pub invariant_of-result : goal.invariant_of-result
invariant_of-result g c =
    subst (λ (row : Row). AreZeroUnless c.none-some.result row)
    (sym (ap (map g.S.Scalar.means) c.in_ok-cells.ensures ∙ copies_mapped g.S.Scalar.means c.args.len c.zero.result 0ℚ c.zero.ensures))
    (λ column free. number_at-zeros c.args.len column)
