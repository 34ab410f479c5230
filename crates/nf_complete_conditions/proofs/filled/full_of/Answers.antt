use Rattle.std.proofs.Common.{Option, sym, ap, ◌∙◌}
use Rattle.nf_complete_conditions.proofs.Common.{ℚ, passes_Q, Verdict, at_part, full_on}
use Rattle.nf_complete_conditions.proofs.Filling.{full_none}
use Rattle.nf_complete_conditions.proofs.filled.full_of.Goals as goal

pub returns-in-None : goal.returns-in-None
returns-in-None c =
    sym (ap (λ (o : Option ℚ). at_part Verdict (full_on passes_Q c.args.active o c.args.head_slope)) c.in-None.is
    ∙ ap (at_part Verdict) (full_none passes_Q c.args.active c.args.head_slope))
