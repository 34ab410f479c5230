use Rattle.std.proofs.Common.{map}
use Rattle.nf_routes_links.proofs.Common.{loaded_of}
use Rattle.nf_routes_links.proofs.Repeating.{AllTravels}
use Rattle.nf_routes_links.proofs.composing.travels.Given as goal

abbrev pub invariant-loop : goal.invariant-loop
invariant-loop l = AllTravels l.horizon (map loaded_of l.links) l.routes (map (λ c. c.points) l.travels.items) l.counter
