use Rattle.nf_model_laws.proofs.Earliest.{IsEarliest-label, AreLabels-report}
use Rattle.nf_model.specs.Equilibrium.{inflow, label}
use Rattle.nf_model_laws.proofs.report_labels_are_earliest.Goals as goal

pub returns : goal.returns
returns c = λ net flow departure good shape rises h.
    (IsEarliest-label net (inflow flow) departure (λ v. label flow v departure) good rises, AreLabels-report net flow departure good shape rises h)
