use Rattle.nf_phase_equilibrium_laws.proofs.Invariant.{HoldsUpTo-equilibrium, DescribesLinks-equilibrium}
use Rattle.nf_phase_equilibrium_laws.proofs.equilibrium_has_invariant.Goals as goal

pub returns : goal.returns
returns c = record { holds = HoldsUpTo-equilibrium; describes = DescribesLinks-equilibrium }
