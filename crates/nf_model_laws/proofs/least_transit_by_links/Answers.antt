use Rattle.nf_model_laws.proofs.EarliestTransits.{IsLeastTransit-label, AreTransitLabels-least}
use Rattle.nf_model_laws.proofs.least_transit_by_links.Goals as goal

pub returns : goal.returns
returns c = λ net label good. (IsLeastTransit-label net label good, AreTransitLabels-least net label good)
