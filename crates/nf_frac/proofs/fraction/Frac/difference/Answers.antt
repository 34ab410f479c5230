use Rattle.nf_frac.proofs.Common.{bound_of}
use Rattle.nf_frac.proofs.Passing.{difference_done, sum_within, within_along}
use Rattle.nf_frac.proofs.SmallPassing.{small_difference}
use Rattle.nf_frac.proofs.fraction.Frac.difference.Goals as goal

pub invariant_of-result : goal.invariant_of-result
invariant_of-result g c =
    let w = small_difference (bound_of g.row.BITS) c.args.self c.args.right _ (c.in-Some.ensures {u = tt}) c.plus.result c.negated.result c.plus.ensures c.negated.ensures.value in
    within_along (bound_of g.row.BITS) _ _ w.1 (sum_within (bound_of g.row.BITS) _ _ w.0)

pub returns-in-Some : goal.returns-in-Some
returns-in-Some g c =
    difference_done (bound_of g.row.BITS) c.args.self c.args.right c.plus.result
    (small_difference (bound_of g.row.BITS) c.args.self c.args.right _ (c.in-Some.ensures {u = tt}) c.plus.result c.negated.result c.plus.ensures c.negated.ensures.value)
