use Rattle.nf_phase_laws.proofs.Holds.{IsNashFlow-from_HoldsUpTo}
use Rattle.nf_phase_laws.proofs.nash_from_invariant.Goals as goal

pub returns : goal.returns
returns c = IsNashFlow-from_HoldsUpTo
