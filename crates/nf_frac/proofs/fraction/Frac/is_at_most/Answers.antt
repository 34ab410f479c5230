use Rattle.std.proofs.Common.{◌∙◌}
use Rattle.nf_frac.proofs.Comparisons.{le-cmp}
use Rattle.nf_frac.proofs.fraction.Frac.is_at_most.Goals as goal

pub returns : goal.returns
returns g c = c.le.ensures ∙ le-cmp c.args.self c.args.right
