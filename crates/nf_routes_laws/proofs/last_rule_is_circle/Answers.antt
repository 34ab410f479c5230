use Rattle.nf_routes_laws.proofs.FileReading.{circle_there, circle_refused}
use Rattle.nf_routes_laws.proofs.last_rule_is_circle.Goals as goal

pub returns : goal.returns
returns c = record { circle = circle_there; refused = circle_refused }
