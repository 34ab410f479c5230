use Rattle.nf_report_laws.proofs.Loads.{loads-pieces}
use Rattle.nf_report_laws.proofs.loads_have_pieces.Goals as goal

pub returns : goal.returns
returns c = λ n text pieces e. loads-pieces n text pieces e
