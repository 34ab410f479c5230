use Rattle.std.proofs.Common.{◌∙◌, ap}
use Rattle.nf_rational.specs.Rational.{ℚ}
use Rattle.nf_rational.specs.Order.{le_ℚ}
use Rattle.nf_frac.proofs.Comparisons.{ge-cmp}
use Rattle.nf_sets.proofs.is_active.Goals as goal

pub returns : goal.returns
returns c = c.ge.ensures ∙ (ge-cmp c.args.slack c.zero.result ∙ ap (λ (z : ℚ). le_ℚ z c.args.slack) c.zero.ensures)
