use Rattle.nf_settling_growth_laws.proofs.Growth.{tail-has_growth}
use Rattle.nf_settling_growth_laws.proofs.tail_has_growth.Goals as goal

pub returns : goal.returns
returns c = tail-has_growth
