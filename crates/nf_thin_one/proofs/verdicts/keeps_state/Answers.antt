use Rattle.std.proofs.Common.{rules}
use Rattle.nf_thin_one.proofs.verdicts.keeps_state.Goals as goal

pub returns-in-Some : goal.returns-in-Some
returns-in-Some c = search rules
