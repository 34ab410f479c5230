use Rattle.std.proofs.Common.{◌∙◌, arith}
use Rattle.nf_frac.proofs.Form.{num_reduced, den_reduced, reduced_within, within_reduced, form_of, value_of, within_more}
use Rattle.nf_frac.proofs.lowest.Lowest.reduced.Goals as goal

pub returns-then-above-limit : goal.returns-then-above-limit
returns-then-above-limit c w =
    let h = within_reduced c.args.negative c.args.magnitude c.args.den _ _ _ c.gcd_of-common.ensures.value c.divided-above.ensures c.divided-below.ensures
    c.requires.positive c.args.limit w in
    grind (arith, h.0, h.1)

pub invariant_of-result : goal.invariant_of-result
invariant_of-result c =
    let n = num_reduced c.args.negative c.args.magnitude c.args.den _ _ _ c.gcd_of-common.ensures.value c.divided-above.ensures c.divided-below.ensures c.requires.positive in
    let d = den_reduced c.args.negative c.args.magnitude c.args.den _ _ _ c.gcd_of-common.ensures.value c.divided-above.ensures c.divided-below.ensures c.requires.positive in
    let w = reduced_within c.args.negative c.args.magnitude c.args.den _ _ _ c.gcd_of-common.ensures.value c.divided-above.ensures c.divided-below.ensures
    c.requires.positive c.args.limit c.if-above-limit.false c.if-below-limit.false in
    form_of _ _ _ (c.with_sign.ensures ∙ n) d (within_more c.requires.narrow w)

pub returns : goal.returns
returns c =
    let n = num_reduced c.args.negative c.args.magnitude c.args.den _ _ _ c.gcd_of-common.ensures.value c.divided-above.ensures c.divided-below.ensures c.requires.positive in
    let d = den_reduced c.args.negative c.args.magnitude c.args.den _ _ _ c.gcd_of-common.ensures.value c.divided-above.ensures c.divided-below.ensures c.requires.positive in
    let w = reduced_within c.args.negative c.args.magnitude c.args.den _ _ _ c.gcd_of-common.ensures.value c.divided-above.ensures c.divided-below.ensures
    c.requires.positive c.args.limit c.if-above-limit.false c.if-below-limit.false in
    (w, value_of _ _ _ (c.with_sign.ensures ∙ n) d (within_more c.requires.narrow w))
