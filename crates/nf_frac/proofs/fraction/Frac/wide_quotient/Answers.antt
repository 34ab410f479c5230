use Rattle.nf_frac.proofs.Common.{bound_of}
use Rattle.nf_frac.proofs.Passing.{quotient_done, quotient_passed, within_along}
use Rattle.nf_frac.proofs.fraction.Frac.wide_quotient.Goals as goal

pub invariant_of-result : goal.invariant_of-result
invariant_of-result g c =
    let w = rw c.bound.ensures.value at c.in-Some.ensures in
    within_along (bound_of g.row.BITS) _ _ w.1 w.0

pub returns-in-Some : goal.returns-in-Some
returns-in-Some g c =
    let w = rw (c.bound.ensures.value, c.inverted.ensures, c.self.view_is, c.right.view_is) at c.in-Some.ensures in
    quotient_done (bound_of g.row.BITS) c.args.self.now c.args.right.now c.in-Some.value w

pub returns-in-None : goal.returns-in-None
returns-in-None g c =
    let w = rw (c.bound.ensures.value, c.inverted.ensures, c.self.view_is, c.right.view_is) at c.in-None.ensures in
    rw (c.self.view_is, c.right.view_is) (quotient_passed (bound_of g.row.BITS) c.args.self.now c.args.right.now w)
