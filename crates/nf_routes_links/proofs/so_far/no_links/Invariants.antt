use Rattle.std.proofs.Common.{◌≡◌, take}
use Rattle.nf_routes_links.proofs.Common.{nothing_loaded}
use Rattle.nf_routes_links.proofs.so_far.no_links.Given as goal

abbrev pub invariant-loop : goal.invariant-loop
invariant-loop l = l.links.items ≡ nothing_loaded (take l.counter l.net.net.links)
