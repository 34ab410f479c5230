use Rattle.nf_model_laws.proofs.OneValue.{IsLeastTransit-unique, IsEarliest-unique, IsExtension-unique, IsPhaseLength-unique}
use Rattle.nf_model_laws.proofs.extremes_are_unique.Goals as goal

pub returns : goal.returns
returns c = record {
  least_transit = IsLeastTransit-unique;
  earliest = IsEarliest-unique;
  extension = IsExtension-unique;
  phase_length = IsPhaseLength-unique;
}
