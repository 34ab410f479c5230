use Rattle.nf_thin_laws.proofs.Agree.{IsPhase-unique, IsPhaseSequence-agree}
use Rattle.nf_thin_laws.proofs.phase_sequences_agree.Goals as goal

pub returns : goal.returns
returns c = record {
  phase = λ net horizon old new other good p q. IsPhase-unique net horizon good old new other p q;
  sequence = λ net horizon phases others good p q h. IsPhaseSequence-agree net horizon good phases others p q h;
}
