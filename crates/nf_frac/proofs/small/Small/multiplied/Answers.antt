use Rattle.std.proofs.Common.{◌∙◌}
use Rattle.nf_frac.proofs.SmallParts.{called_short, plain_64}
use Rattle.nf_frac.proofs.SmallSums.{product_form, product_value, part_kept, part_plain}
use Rattle.nf_frac.proofs.small.Small.multiplied.Goals as goal

pub of-requires : goal.of-requires
of-requires c =
    let xw = called_short c.args.self _ _ c.numer.ensures.value c.numer.ensures.small c.denom.ensures.value c.denom.ensures.small in
    let yw = called_short c.args.right _ _ c.numer-2.ensures.value c.numer-2.ensures.small c.denom-2.ensures.value c.denom-2.ensures.small in
    let xn = plain_64 c.numer.result c.numer.ensures.small ∙ c.numer.ensures.value in
    let yn = plain_64 c.numer-2.result c.numer-2.ensures.small ∙ c.numer-2.ensures.value in
    product_form c.args.self c.args.right xw yw _ _ _ _ c.wide_product.result c.denom.result c.denom-2.result _ _ c.divided_short.result c.divided_short-2.result c.widened.result
    c.denom.ensures.value c.denom-2.ensures.value xn yn c.common_with-left.ensures.value c.common_with-other.ensures.value
    (part_plain c.part_of.result c.numer.result c.common_with-left.result c.part_of.ensures c.numer.ensures.small)
    (part_plain c.part_of-2.result c.numer-2.result c.common_with-other.result c.part_of-2.ensures c.numer-2.ensures.small) c.wide_product.ensures
    c.divided_short.ensures c.divided_short-2.ensures c.widened.ensures

pub returns : goal.returns
returns c =
    let xw = called_short c.args.self _ _ c.numer.ensures.value c.numer.ensures.small c.denom.ensures.value c.denom.ensures.small in
    let yw = called_short c.args.right _ _ c.numer-2.ensures.value c.numer-2.ensures.small c.denom-2.ensures.value c.denom-2.ensures.small in
    let xn = plain_64 c.numer.result c.numer.ensures.small ∙ c.numer.ensures.value in
    let yn = plain_64 c.numer-2.result c.numer-2.ensures.small ∙ c.numer-2.ensures.value in
    c.of.ensures
    ∙ product_value c.args.self c.args.right xw yw _ _ _ _ c.wide_product.result c.denom.result c.denom-2.result _ _ c.divided_short.result c.divided_short-2.result c.widened.result
    c.denom.ensures.value c.denom-2.ensures.value xn yn c.common_with-left.ensures.value c.common_with-other.ensures.value
    (part_plain c.part_of.result c.numer.result c.common_with-left.result c.part_of.ensures c.numer.ensures.small)
    (part_plain c.part_of-2.result c.numer-2.result c.common_with-other.result c.part_of-2.ensures c.numer-2.ensures.small) c.wide_product.ensures
    c.divided_short.ensures c.divided_short-2.ensures c.widened.ensures

pub wide_product-requires-clause-left : goal.wide_product-requires-clause-left
wide_product-requires-clause-left c = part_kept c.part_of.result c.numer.result _ c.part_of.ensures c.numer.ensures.small

pub wide_product-requires-clause-right : goal.wide_product-requires-clause-right
wide_product-requires-clause-right c = part_kept c.part_of-2.result c.numer-2.result _ c.part_of-2.ensures c.numer-2.ensures.small
