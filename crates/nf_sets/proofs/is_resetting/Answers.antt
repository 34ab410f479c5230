use Rattle.std.proofs.Common.{◌∙◌, ap}
use Rattle.nf_rational.specs.Rational.{ℚ}
use Rattle.nf_rational.specs.Order.{lt_ℚ}
use Rattle.nf_frac.proofs.Comparisons.{gt-cmp}
use Rattle.nf_sets.proofs.is_resetting.Goals as goal

pub returns : goal.returns
returns c = c.gt.ensures ∙ (gt-cmp c.args.slack c.zero.result ∙ ap (λ (z : ℚ). lt_ℚ z c.args.slack) c.zero.ensures)
