use Rattle.nf_settling_growth_laws.proofs.Sways.{bottleneck-steadies}
use Rattle.nf_settling_growth_laws.proofs.bottleneck_steadies.Goals as goal

pub returns : goal.returns
returns c = bottleneck-steadies
