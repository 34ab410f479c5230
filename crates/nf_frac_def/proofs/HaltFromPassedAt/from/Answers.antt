use Rattle.std.proofs.Common.{refl}
use Rattle.nf_frac_def.proofs.HaltFromPassedAt.from.Goals as goal

pub returns : goal.returns
returns g c = refl
