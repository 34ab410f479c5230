use Rattle.std.proofs.Common.{◌∙◌}
use Rattle.nf_frac.proofs.Form.{stops}
use Rattle.nf_frac.proofs.ShortSums.{no_level, level_fits, level_value}
use Rattle.nf_frac.proofs.small.Small.level_sum.Goals as goal

pub returns-in_err-num : goal.returns-in_err-num
returns-in_err-num c =
    stops _ _ _ c.from_residual.ensures
    (no_level c.args.self c.args.right c.denom-den.result c.numer.result c.numer-2.result c.requires c.denom-den.ensures.value c.denom-den.ensures.small
    c.numer.ensures.value c.numer-2.ensures.value c.numer.ensures.small c.numer-2.ensures.small
    c.in_err-num.ensures)

pub returns : goal.returns
returns c = (
  level_fits c.args.self c.args.right c.denom-den.result c.numer.result c.numer-2.result c.requires c.denom-den.ensures.value c.denom-den.ensures.small
      c.numer.ensures.value c.numer-2.ensures.value c.numer.ensures.small c.numer-2.ensures.small
      c.in_ok-num.num c.in_ok-num.ensures,
  c.over.ensures
      ∙ level_value c.args.self c.args.right c.denom-den.result c.numer.result c.numer-2.result c.requires c.denom-den.ensures.value
      c.denom-den.ensures.small c.numer.ensures.value c.numer-2.ensures.value c.numer.ensures.small c.numer-2.ensures.small
      c.in_ok-num.num c.in_ok-num.ensures,
)
