use Rattle.nf_frac.proofs.Common.{bound_of}
use Rattle.nf_frac.proofs.Passing.{within_along}
use Rattle.nf_frac.proofs.Turned.{neg_within}
use Rattle.nf_frac.proofs.fraction.Frac.negated.Goals as goal

pub invariant_of-result : goal.invariant_of-result
invariant_of-result g c =
    within_along (bound_of g.row.BITS) _ _ c.negated.ensures (neg_within (bound_of g.row.BITS) _ c.self.invariant)
