use Rattle.nf_frac.proofs.Common.{bound_of}
use Rattle.nf_frac.proofs.Passing.{sum_done, sum_within, within_along}
use Rattle.nf_frac.proofs.SmallPassing.{small_sum}
use Rattle.nf_frac.proofs.fraction.Frac.sum.Goals as goal

pub invariant_of-result : goal.invariant_of-result
invariant_of-result g c =
    let w = small_sum (bound_of g.row.BITS) c.args.self c.args.right _ (c.in-Some.ensures {u = tt}) c.plus.result c.plus.ensures in
    within_along (bound_of g.row.BITS) _ _ w.1 (sum_within (bound_of g.row.BITS) _ _ w.0)

pub returns-in-Some : goal.returns-in-Some
returns-in-Some g c =
    sum_done (bound_of g.row.BITS) c.args.self c.args.right c.plus.result
    (small_sum (bound_of g.row.BITS) c.args.self c.args.right _ (c.in-Some.ensures {u = tt}) c.plus.result c.plus.ensures)
