use Rattle.std.proofs.Common.{Option, sym, ap, ◌∙◌}
use Rattle.nf_rational.specs.Rational.{ℚ}
use Rattle.nf_frac_def.specs.Passing.{passes_Q}
use Rattle.nf_model.specs.Queue.{waiting}
use Rattle.corridor_tolls.proofs.TollLines.{quotient_is}
use Rattle.corridor_tolls.proofs.tolls.toll_of.Goals as goal

pub returns-in-Ok-at : goal.returns-in-Ok-at
returns-in-Ok-at c =
    quotient_is passes_Q c.args.queue c.in-Some.capacity c.in-Ok-at.field-0 (sym c.in-Ok-at.is ∙ c.quotient.ensures)
    ∙ ap (λ (o : Option ℚ). waiting o c.args.queue) (sym c.in-Some.is)
