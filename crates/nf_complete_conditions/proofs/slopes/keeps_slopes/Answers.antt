use Rattle.std.proofs.Common.{Option, sym, ap, ◌∙◌}
use Rattle.nf_complete_conditions.proofs.Common.{ℚ, keeps_test}
use Rattle.nf_complete_conditions.proofs.slopes.keeps_slopes.Goals as goal

pub returns-in-None : goal.returns-in-None
returns-in-None c = c.keeps_unbounded.ensures c.args.resets ∙ ap (λ (o : Option ℚ). keeps_test c.args.resets o c.args.flow c.args.tail_slope c.args.head_slope) (sym c.in-None.is)
