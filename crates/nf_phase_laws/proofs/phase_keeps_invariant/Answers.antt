use Rattle.nf_phase_laws.proofs.Lasting.{HoldsUpTo-lasts}
use Rattle.nf_phase_laws.proofs.phase_keeps_invariant.Goals as goal

pub returns : goal.returns
returns c = HoldsUpTo-lasts
