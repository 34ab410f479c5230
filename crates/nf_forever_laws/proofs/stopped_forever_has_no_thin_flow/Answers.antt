use Rattle.nf_forever_laws.proofs.Stopped.{forever_stops_for_none}
use Rattle.nf_forever_laws.proofs.stopped_forever_has_no_thin_flow.Goals as goal

pub returns : goal.returns
returns c = λ passes net phases patterns forever good f. forever_stops_for_none passes net phases patterns forever good f
