use Rattle.nf_settling_growth_laws.proofs.Growth.{bottleneck-decides}
use Rattle.nf_settling_growth_laws.proofs.bottleneck_decides.Goals as goal

pub returns : goal.returns
returns c = bottleneck-decides
