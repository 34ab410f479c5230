use Rattle.nf_phase_laws.proofs.Length.{IsExtension-some, IsPhaseLength-some, IsPhase-some}
use Rattle.nf_phase_laws.proofs.phases_take_time.Goals as goal

pub returns : goal.returns
returns c = record { extension = IsExtension-some; length = IsPhaseLength-some; time = IsPhase-some }
