use Rattle.std.proofs.Common.{◌≡◌, drop}
use Rattle.nf_routes_links.proofs.Common.{all_pairs, end_by, routes_of}
use Rattle.nf_routes_links.proofs.ends.end_by.Given as goal

abbrev pub invariant-loop-route : goal.invariant-loop-route
invariant-loop-route l = end_by l.end (all_pairs (routes_of (drop l.route-index l.routes))) l.links l.link ≡ end_by l.fn.horizon (all_pairs (routes_of l.routes)) l.links l.link
