use Rattle.std.proofs.Common.{◌∙◌}
use Rattle.nf_frac.proofs.ShortSums.{wide_level_small, wide_level_value}
use Rattle.nf_frac.proofs.SmallParts.{kept_short}
use Rattle.nf_frac.proofs.small.Small.level_plus.Goals as goal

pub wide_sum-requires-clause-left : goal.wide_sum-requires-clause-left
wide_sum-requires-clause-left c = kept_short c.numer.result c.numer.ensures.small

pub wide_sum-requires-clause-right : goal.wide_sum-requires-clause-right
wide_sum-requires-clause-right c = kept_short c.numer-2.result c.numer-2.ensures.small

pub over-requires-clause-small : goal.over-requires-clause-small
over-requires-clause-small c =
    wide_level_small c.args.self c.args.right c.requires c.denom-den.result c.numer.result c.numer-2.result c.wide_sum.result c.denom-den.ensures.value
    c.numer.ensures.value c.numer-2.ensures.value
    c.numer.ensures.small c.numer-2.ensures.small c.wide_sum.ensures

pub returns : goal.returns
returns c =
    c.over.ensures
    ∙ wide_level_value c.args.self c.args.right c.requires c.denom-den.result c.numer.result c.numer-2.result c.wide_sum.result c.denom-den.ensures.value
    c.numer.ensures.value c.numer-2.ensures.value
    c.numer.ensures.small c.numer-2.ensures.small c.wide_sum.ensures
