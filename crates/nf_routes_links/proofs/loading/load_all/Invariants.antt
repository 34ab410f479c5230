use Rattle.nf_routes_links.proofs.Common.{passes_Q, routes_of, seen_so_far}
use Rattle.nf_routes_links.proofs.All.{Loads}
use Rattle.nf_routes_links.proofs.loading.load_all.Given as goal

abbrev pub invariant-loop-link : goal.invariant-loop-link
invariant-loop-link l = Loads passes_Q l.kept l.net.net (routes_of l.routes) l.horizon l.link-items (seen_so_far l.so_far) l.link-index
