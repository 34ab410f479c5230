use Rattle.nf_phase_laws.proofs.Start.{HoldsUpTo-start}
use Rattle.nf_phase_laws.proofs.start_has_invariant.Goals as goal

pub returns : goal.returns
returns c = HoldsUpTo-start
