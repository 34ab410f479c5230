use Rattle.std.proofs.Common.{not, ap}
use Rattle.nf_rational.specs.Order.{lt_ℚ}
use Rattle.nf_frac.proofs.fraction.Frac.is_below.Goals as goal

pub returns : goal.returns
unfolding lt_ℚ
returns g c = ap not c.is_at_most.ensures
