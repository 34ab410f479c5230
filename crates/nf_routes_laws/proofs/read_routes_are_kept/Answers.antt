use Rattle.nf_routes_laws.proofs.FileReading.{read_kept, read_walks}
use Rattle.nf_routes_laws.proofs.read_routes_are_kept.Goals as goal

pub returns : goal.returns
returns c = record { kept = read_kept; walks = λ n text routes h. (read_walks n text routes h).walks }
