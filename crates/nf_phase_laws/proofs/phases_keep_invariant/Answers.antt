use Rattle.nf_phase_laws.proofs.Phases.{HoldsUpTo-phases, LabelsAre-phases}
use Rattle.nf_phase_laws.proofs.phases_keep_invariant.Goals as goal

pub returns : goal.returns
returns c = record { holds = HoldsUpTo-phases; labels = LabelsAre-phases }
