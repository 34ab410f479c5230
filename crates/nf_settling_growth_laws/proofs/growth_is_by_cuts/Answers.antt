use Rattle.nf_settling_growth_laws.proofs.Growth.{growth-is_by_cuts}
use Rattle.nf_settling_growth_laws.proofs.growth_is_by_cuts.Goals as goal

pub returns : goal.returns
returns c = growth-is_by_cuts
