use Rattle.nf_thin_laws.proofs.Common.{IsThinFlow-sink}
use Rattle.nf_thin_laws.proofs.thin_flow_comes_to_sink.Goals as goal

pub returns : goal.returns
returns c = λ net sets rate flows slopes good thin. IsThinFlow-sink net good sets rate flows slopes thin
