use Rattle.std.proofs.Common.{refl}
use Rattle.nf_check.proofs.answer.no.Goals as goal

pub returns : goal.returns
returns c = refl
