use Rattle.nf_routes_laws.proofs.FileReading.{decided, only_reading}
use Rattle.nf_routes_laws.proofs.routes_have_one_reading.Goals as goal

pub returns : goal.returns
returns c = record { decided = decided; one = only_reading }
