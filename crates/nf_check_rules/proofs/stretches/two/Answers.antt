use Rattle.nf_check_rules.proofs.Stretching.{one_and_one}
use Rattle.nf_check_rules.proofs.stretches.two.Goals as goal

pub returns : goal.returns
returns c = one_and_one c.one-unit.result c.sum.result c.one-unit.ensures c.sum.ensures
