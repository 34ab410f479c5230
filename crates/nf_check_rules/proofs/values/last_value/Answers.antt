use Rattle.std.proofs.Common.{◌-◌, length, arith}
use Rattle.nf_check_rules.proofs.PointByPoint.{last_is, all_from_0}
use Rattle.nf_check_rules.proofs.values.last_value.Goals as goal

pub returns-clause-value : goal.returns-clause-value
returns-clause-value c = last_is c.args.curve.now.points (length c.args.curve.now.points - 1) c.last-value.result c.last-value.ensures (omega (arith, c.recall.ensures.some))

pub returns-clause-nonnegative : goal.returns-clause-nonnegative
returns-clause-nonnegative c = λ all. all_from_0 c.args.curve.now.points (length c.args.curve.now.points - 1) c.last-value.result c.last-value.ensures all
