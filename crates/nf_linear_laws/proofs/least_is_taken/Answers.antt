use Rattle.nf_linear_laws.proofs.Least.{least_is_taken}
use Rattle.nf_linear_laws.proofs.least_is_taken.Goals as goal

pub returns : goal.returns
returns c = λ system objective start floor met bounded. least_is_taken system objective start floor met bounded
