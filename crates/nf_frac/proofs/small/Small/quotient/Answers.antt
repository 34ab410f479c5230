use Rattle.std.proofs.Common.{◌∙◌, ap}
use Rattle.nf_frac.proofs.Common.{ℚ, ◌*ℚ◌}
use Rattle.nf_rational.specs.Operations.{◌/ℚ◌}
use Rattle.nf_frac.proofs.small.Small.quotient.Goals as goal

pub returns : goal.returns
unfolding ◌/ℚ◌
returns c = c.multiplied.ensures ∙ ap (λ (q : ℚ). c.args.self *ℚ q) c.inverted.ensures
