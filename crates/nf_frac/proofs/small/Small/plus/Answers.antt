use Rattle.std.proofs.Common.{sym, ◌∙◌}
use Rattle.nf_frac.proofs.SmallParts.{called_short, kept_short, plain_64}
use Rattle.nf_frac.proofs.SmallSums.{total_fits, sum_form, sum_value, zero_read, left_alone, right_alone}
use Rattle.nf_frac.proofs.small.Small.plus.Goals as goal

pub overflow_add-total : goal.overflow_add-total
overflow_add-total c =
    let xw = called_short c.args.self _ _ c.numer-num.ensures.value c.numer-num.ensures.small c.denom-den.ensures.value c.denom-den.ensures.small in
    let yw = called_short c.args.right _ _ c.numer-right_num.ensures.value c.numer-right_num.ensures.small c.denom-right_den.ensures.value c.denom-right_den.ensures.small in
    let xn = plain_64 c.numer-num.result c.numer-num.ensures.small ∙ c.numer-num.ensures.value in
    let yn = plain_64 c.numer-right_num.result c.numer-right_num.ensures.small ∙ c.numer-right_num.ensures.value in
    total_fits c.args.self c.args.right xw yw c.denom-den.result c.denom-right_den.result c.common_factor-common.result c.divided_short-left_factor.result
    c.divided_short-right_factor.result
    _ _ c.times.result c.times-2.result c.denom-den.ensures.value c.denom-right_den.ensures.value c.common_factor-common.ensures.value
    c.divided_short-left_factor.ensures c.divided_short-right_factor.ensures
    xn yn c.times.ensures c.times-2.ensures

pub of-requires : goal.of-requires
of-requires c =
    let xw = called_short c.args.self _ _ c.numer-num.ensures.value c.numer-num.ensures.small c.denom-den.ensures.value c.denom-den.ensures.small in
    let yw = called_short c.args.right _ _ c.numer-right_num.ensures.value c.numer-right_num.ensures.small c.denom-right_den.ensures.value c.denom-right_den.ensures.small in
    let xn = plain_64 c.numer-num.result c.numer-num.ensures.small ∙ c.numer-num.ensures.value in
    let yn = plain_64 c.numer-right_num.result c.numer-right_num.ensures.small ∙ c.numer-right_num.ensures.value in
    sum_form c.args.self c.args.right xw yw c.denom-den.result c.denom-right_den.result c.common_factor-common.result c.divided_short-left_factor.result
    c.divided_short-right_factor.result
    _ _ c.times.result c.times-2.result c.denom-den.ensures.value c.denom-right_den.ensures.value c.common_factor-common.ensures.value
    c.divided_short-left_factor.ensures c.divided_short-right_factor.ensures
    xn yn c.times.ensures c.times-2.ensures
    c.unsigned_abs.result c.rest_factor-rest.result c.divided_short.result c.widened.result c.shortened.result
    c.unsigned_abs.ensures.value c.rest_factor-rest.ensures.value c.shortened.ensures c.divided_short.ensures c.widened.ensures

pub returns : goal.returns
returns c =
    let xw = called_short c.args.self _ _ c.numer-num.ensures.value c.numer-num.ensures.small c.denom-den.ensures.value c.denom-den.ensures.small in
    let yw = called_short c.args.right _ _ c.numer-right_num.ensures.value c.numer-right_num.ensures.small c.denom-right_den.ensures.value c.denom-right_den.ensures.small in
    let xn = plain_64 c.numer-num.result c.numer-num.ensures.small ∙ c.numer-num.ensures.value in
    let yn = plain_64 c.numer-right_num.result c.numer-right_num.ensures.small ∙ c.numer-right_num.ensures.value in
    c.of.ensures
    ∙ sum_value c.args.self c.args.right xw yw c.denom-den.result c.denom-right_den.result c.common_factor-common.result c.divided_short-left_factor.result
    c.divided_short-right_factor.result
    _ _ c.times.result c.times-2.result c.denom-den.ensures.value c.denom-right_den.ensures.value c.common_factor-common.ensures.value
    c.divided_short-left_factor.ensures c.divided_short-right_factor.ensures
    xn yn c.times.ensures c.times-2.ensures
    c.unsigned_abs.result c.rest_factor-rest.result c.divided_short.result c.widened.result c.shortened.result
    c.unsigned_abs.ensures.value c.rest_factor-rest.ensures.value c.shortened.ensures c.divided_short.ensures c.widened.ensures

pub times-requires-clause-small : goal.times-requires-clause-small
times-requires-clause-small c = kept_short c.numer-num.result c.numer-num.ensures.small

pub times-requires-2-clause-small : goal.times-requires-2-clause-small
times-requires-2-clause-small c = kept_short c.numer-right_num.result c.numer-right_num.ensures.small

pub rest_factor-rest-requires : goal.rest_factor-rest-requires
rest_factor-rest-requires c = c.common_factor-common.ensures.positive c.denom-right_den.ensures.positive

pub returns-then-num-eq0 : goal.returns-then-num-eq0
returns-then-num-eq0 c =
    c.lowest.ensures.value ∙ right_alone c.args.self c.args.right (sym c.numer-num.ensures.value
    ∙ zero_read c.numer-num.result c.numer-num.ensures.small c.if-num-eq0.true)

pub returns-then-right_num-eq0 : goal.returns-then-right_num-eq0
returns-then-right_num-eq0 c =
    c.lowest-then-right_num-eq0.ensures.value ∙ left_alone c.args.self c.args.right
    (sym c.numer-right_num.ensures.value ∙ zero_read c.numer-right_num.result c.numer-right_num.ensures.small c.if-right_num-eq0.true)
