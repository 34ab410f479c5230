use Rattle.std.proofs.Common.{List, subst, ◌∙◌, IfOk}
use Rattle.nf_linear.proofs.Common.{at_part, Gives, Row, table_list, values_of, IsTrueOf}
use Rattle.nf_frac_def.specs.declared.Part.TheVariants as Part
use Rattle.nf_linear.proofs.solution.solve.Goals as goal

pub returns : goal.returns
returns g c =
    record {
      list = subst (λ (rows : List Row). Gives (values_of g.S.Scalar.means) g.S.Scalar.means c.solve_table.result (at_part Part.Table (table_list g.S.Scalar.passes rows)))
          (c.deref_mut.ensures.value ∙ c.into_rows-rows.ensures.rows) c.solve_table.ensures.list;
      solution = subst (λ (rows : List Row). IfOk c.solve_table.result (IsTrueOf g.S.Scalar.means rows))
          (c.deref_mut.ensures.value ∙ c.into_rows-rows.ensures.rows) c.solve_table.ensures.solution;
    }
