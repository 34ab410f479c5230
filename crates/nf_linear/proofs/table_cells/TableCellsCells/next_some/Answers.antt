use Rattle.std.proofs.Common.{List, ap, sym, ◌∙◌}
use Rattle.nf_linear.proofs.Common.{ℚ, number_at}
use Rattle.nf_linear.proofs.table_cells.TableCellsCells.next_some.Goals as goal

pub returns : goal.returns
returns g c =
    record {
      later = c.next.ensures.later;
      zero = λ i from before. ap (λ (row : List ℚ). number_at row i) (sym c.self.view_is) ∙ c.self.invariant i (c.next.ensures.free i from before);
    }
