use Rattle.nf_thin_laws.proofs.Ending.{run_ends}
use Rattle.nf_thin_laws.proofs.run_ends_at_labels.Goals as goal

pub returns : goal.returns
returns c = λ passes net bounds last stop is_network run. run_ends passes net is_network bounds last stop run
