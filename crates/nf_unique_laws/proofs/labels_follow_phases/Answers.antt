use Rattle.nf_unique_laws.proofs.Phases.{phase-labels, sequence-labels}
use Rattle.nf_unique_laws.proofs.labels_follow_phases.Goals as goal

pub returns : goal.returns
returns c = record {
  phase = λ net horizon old new phase flow departure good is begins count same w h. phase-labels net good flow is horizon old new phase begins count same departure w h;
  sequence = λ net horizon phases flow i time labels good is sequence at h. sequence-labels net good flow is horizon phases sequence i time labels at h;
}
