use Rattle.std.proofs.Common.{ℤ, pos, nat_abs, ap, ◌∙◌}
use Rattle.nf_frac.proofs.Common.{short}
use lib.Signed.{quot_z}
use mir.Facts.{to_z-of_z}
use Rattle.nf_frac.proofs.Form.{num_over, den_over, ratio_within}
use Rattle.nf_frac.proofs.SmallParts.{short_form, short_value}
use Rattle.nf_frac.proofs.small.Small.over.Goals as goal

pub of-requires : goal.of-requires
of-requires c =
    let size = c.unsigned_abs.ensures.value ∙ ap nat_abs (to_z-of_z c.ranges.num) in
    let part = c.part_of.ensures ∙ ap (λ (z : ℤ). quot_z z (pos c.common_factor-rest.result)) (to_z-of_z c.ranges.num) in
    let n = num_over c.args.num c.args.den _ _ _ _ _ size c.common_factor-rest.ensures.value c.requires.factor part c.divided_short.ensures c.requires.positive in
    let d = den_over c.args.num c.args.den _ _ _ _ _ size c.common_factor-rest.ensures.value c.requires.factor part c.divided_short.ensures c.requires.positive in
    short_form _ _ _ n d (ratio_within short c.args.num c.args.den c.requires.positive c.requires.small c.requires.small_den)

pub returns : goal.returns
returns c =
    let size = c.unsigned_abs.ensures.value ∙ ap nat_abs (to_z-of_z c.ranges.num) in
    let part = c.part_of.ensures ∙ ap (λ (z : ℤ). quot_z z (pos c.common_factor-rest.result)) (to_z-of_z c.ranges.num) in
    let n = num_over c.args.num c.args.den _ _ _ _ _ size c.common_factor-rest.ensures.value c.requires.factor part c.divided_short.ensures c.requires.positive in
    let d = den_over c.args.num c.args.den _ _ _ _ _ size c.common_factor-rest.ensures.value c.requires.factor part c.divided_short.ensures c.requires.positive in
    c.of.ensures.value ∙ short_value _ _ _ n d (ratio_within short c.args.num c.args.den c.requires.positive c.requires.small c.requires.small_den)
