use Rattle.nf_frac.proofs.Common.{bound_of}
use Rattle.nf_frac.proofs.Passing.{quotient_done, within_along}
use Rattle.nf_frac.proofs.SmallPassing.{small_quotient}
use Rattle.nf_frac.proofs.fraction.Frac.quotient.Goals as goal

pub invariant_of-result : goal.invariant_of-result
invariant_of-result g c =
    let w = small_quotient (bound_of g.row.BITS) c.args.self c.args.right _
    (c.in-Some.ensures {u = tt}) c.requires c.multiplied.result c.inverted.result c.multiplied.ensures c.inverted.ensures in
    within_along (bound_of g.row.BITS) _ _ w.1 w.0

pub returns-in-Some : goal.returns-in-Some
returns-in-Some g c =
    quotient_done (bound_of g.row.BITS) c.args.self c.args.right c.multiplied.result
    (small_quotient (bound_of g.row.BITS) c.args.self c.args.right _ (c.in-Some.ensures {u = tt}) c.requires c.multiplied.result c.inverted.result
    c.multiplied.ensures c.inverted.ensures)
