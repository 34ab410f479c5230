use Rattle.nf_frac.proofs.Common.{le_trans, bound_of}
use Rattle.nf_frac.proofs.Bits.{kept_within}
use Rattle.nf_frac.proofs.Written.{read_within}
use Rattle.nf_frac.proofs.fraction.Frac.read.Goals as goal

pub invariant_of-result : goal.invariant_of-result
invariant_of-result g c =
    let h = c.in_ok-num.ensures in
    read_within (bound_of g.row.BITS) c.in_ok-num.num c.in_ok-num.den _ (rw c.bound.ensures.value at c.bound.ensures.small)
    (rw c.bound.ensures.value at h.num) (rw c.bound.ensures.value at h.den) h.positive c.over.ensures

pub over-requires-clause-small : goal.over-requires-clause-small
over-requires-clause-small g c = let h = c.in_ok-num.ensures {u = tt} in kept_within c.in_ok-num.num (le_trans h.num c.bound.ensures.small)
