use Rattle.std.proofs.Common.{◌≡◌, take}
use Rattle.nf_routes_links.proofs.Common.{routes_of, nothing_sent}
use Rattle.nf_routes_links.proofs.so_far.no_entries.Given as goal

abbrev pub invariant-loop-route : goal.invariant-loop-route
invariant-loop-route l = l.entries.items ≡ nothing_sent (routes_of (take l._route-index l.routes))
