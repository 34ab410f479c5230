use Rattle.nf_frac.proofs.Made.{within_bound}
use Rattle.nf_frac.proofs.fraction.Frac.zero.Goals as goal

pub invariant_of-result : goal.invariant_of-result
invariant_of-result g c = within_bound g.row.BITS c.natural.ensures.small
