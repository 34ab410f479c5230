use Rattle.nf_thin_laws.proofs.Exact.{slacks_exact, advanced_exact}
use Rattle.nf_thin_laws.proofs.steps_are_the_models.Goals as goal

pub returns : goal.returns
returns c = record { slacks = slacks_exact; advanced = advanced_exact }
