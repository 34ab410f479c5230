use Rattle.std.proofs.Common.{◌∙◌}
use Rattle.nf_frac.proofs.Comparisons.{same_by_order}
use Rattle.nf_frac.proofs.fraction.Frac.is_same.Goals as goal

pub returns : goal.returns
returns g c = c.eq.ensures ∙ same_by_order c.args.self c.args.right
