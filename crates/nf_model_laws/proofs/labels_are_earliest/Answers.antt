use Rattle.nf_model_laws.proofs.Earliest.{IsEarliest-label, AreLabels-earliest}
use Rattle.nf_model_laws.proofs.labels_are_earliest.Goals as goal

pub returns : goal.returns
returns c = record {
  to = λ net amount departure label good rises labels v h. IsEarliest-label net amount departure label good rises labels v h;
  from = λ net amount departure label good rises exits earliest. AreLabels-earliest net amount departure label good rises exits earliest;
}
