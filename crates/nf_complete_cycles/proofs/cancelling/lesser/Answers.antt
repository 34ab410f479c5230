use Rattle.std.proofs.Common.{rules}
use Rattle.nf_complete_cycles.proofs.cancelling.lesser.Goals as goal

pub returns-in-Some-rest : goal.returns-in-Some-rest
returns-in-Some-rest c = search rules
