use Rattle.nf_model_laws.proofs.Exists.{HasQueue-curve, HasExit-curve, HasOutflow-curve}
use Rattle.nf_model_laws.proofs.link_has_values.Goals as goal

pub returns : goal.returns
returns c = record { queue = HasQueue-curve; exit = HasExit-curve; outflow = HasOutflow-curve }
