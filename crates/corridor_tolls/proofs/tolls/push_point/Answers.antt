use Rattle.std.proofs.Common.{◌++◌, ◌∙◌, ap}
use Rattle.nf_rational.specs.Rational.{ℚ}
use Rattle.corridor_tolls.specs.Tolls.{toll_line}
use Rattle.corridor_tolls.proofs.tolls.push_point.Goals as goal

pub returns : goal.returns
returns c = c.in_ok-push_line.ensures ∙ ap (λ (toll : ℚ). c.args.out.now.items ++ toll_line c.args.name.now c.args.point.now.0 toll) c.in_ok-toll.ensures
