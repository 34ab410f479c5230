use Rattle.std.proofs.Common.{map}
use Rattle.nf_routes_links.proofs.Common.{passes_Q, loaded_of}
use Rattle.nf_routes_links.proofs.Travelling.{Travels}
use Rattle.nf_routes_links.proofs.composing.travel.Given as goal

abbrev pub invariant-loop-link : goal.invariant-loop-link
invariant-loop-link l = Travels passes_Q l.horizon (map loaded_of l.links) l.route.route.links l.travel.points l.link-index
