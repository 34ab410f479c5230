use Rattle.nf_routes_laws.proofs.Routed.{nexts-outflow}
use Rattle.nf_routes_laws.proofs.nexts_are_outflow.Goals as goal

pub returns : goal.returns
returns c = λ net routes horizon routed e link time good are from_0 is p w. nexts-outflow net routes horizon routed e link time good are from_0 is p w
