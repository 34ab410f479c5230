use Rattle.nf_settling_laws.proofs.Linear.{linear_growth-is_by_cuts}
use Rattle.nf_settling_laws.proofs.linear_growth_is_by_cuts.Goals as goal

pub returns : goal.returns
returns c = linear_growth-is_by_cuts
