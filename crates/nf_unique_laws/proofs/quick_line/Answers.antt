use Rattle.nf_rational_laws.proofs.Order.{≤ℚ_of_same}
use Rattle.std.proofs.Common.{sym, ◌∙◌}
use Rattle.nf_unique_laws.proofs.Feasible.{quick-le}
use Rattle.nf_unique_laws.proofs.quick_line.Goals as goal

pub returns : goal.returns
returns c = record {
  of_flow = λ net amount departure quick flow good is_quick departs is h. quick-le net flow good is amount departure quick is_quick departs h;
  of_report = λ net amount departure quick report good is_quick departs well is to none.
      quick-le net report.flow good is amount departure quick is_quick departs (≤ℚ_of_same _ _ (sym (well.stop.0 none ∙ to)));
}
