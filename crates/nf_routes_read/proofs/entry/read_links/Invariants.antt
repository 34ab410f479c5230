use Rattle.nf_routes_read.proofs.RouteLinks.{AreRead}
use Rattle.nf_routes_read.proofs.entry.read_links.Given as goal

abbrev pub invariant-loop-place : goal.invariant-loop-place
invariant-loop-place l = AreRead l.net.link_names l.line.words l.place l.links.items
