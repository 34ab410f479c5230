use Rattle.std.proofs.Common.{ℤ, pos, nat_abs, ap, ◌∙◌}
use Rattle.nf_frac.proofs.Common.{greatest}
use lib.Signed.{quot_z}
use mir.Facts.{to_z-of_z}
use Rattle.nf_frac.proofs.Form.{num_over, den_over, form_of, value_of, ratio_within}
use Rattle.nf_frac.proofs.lowest.Lowest.over.Goals as goal

pub invariant_of-result : goal.invariant_of-result
invariant_of-result c =
    let size = c.unsigned_abs.ensures.value ∙ ap nat_abs (to_z-of_z c.ranges.num) in
    let part = c.shortened.ensures ∙ ap (λ (z : ℤ). quot_z z (pos c.gcd_of-rest.result)) (to_z-of_z c.ranges.num) in
    let n = num_over c.args.num c.args.den _ _ _ _ _ size c.gcd_of-rest.ensures.value c.requires.factor part c.divided.ensures c.requires.positive in
    let d = den_over c.args.num c.args.den _ _ _ _ _ size c.gcd_of-rest.ensures.value c.requires.factor part c.divided.ensures c.requires.positive in
    form_of _ _ _ n d (ratio_within greatest c.args.num c.args.den c.requires.positive c.requires.small c.requires.small_den)

pub returns : goal.returns
returns c =
    let size = c.unsigned_abs.ensures.value ∙ ap nat_abs (to_z-of_z c.ranges.num) in
    let part = c.shortened.ensures ∙ ap (λ (z : ℤ). quot_z z (pos c.gcd_of-rest.result)) (to_z-of_z c.ranges.num) in
    let n = num_over c.args.num c.args.den _ _ _ _ _ size c.gcd_of-rest.ensures.value c.requires.factor part c.divided.ensures c.requires.positive in
    let d = den_over c.args.num c.args.den _ _ _ _ _ size c.gcd_of-rest.ensures.value c.requires.factor part c.divided.ensures c.requires.positive in
    value_of _ _ _ n d (ratio_within greatest c.args.num c.args.den c.requires.positive c.requires.small c.requires.small_den)

pub divided-requires : goal.divided-requires
divided-requires c = c.gcd_of-rest.ensures.positive c.requires.some
