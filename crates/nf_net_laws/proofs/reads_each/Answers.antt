use Rattle.nf_net_laws.proofs.SomeReading.{some_reading}
use Rattle.nf_net_laws.proofs.reads_each.Goals as goal

pub returns : goal.returns
returns c = some_reading
