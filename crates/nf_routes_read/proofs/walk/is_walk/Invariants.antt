use Rattle.std.proofs.Common.{◌≡◌, drop}
use Rattle.nf_routes_read.proofs.Common.{is_walk}
use Rattle.nf_routes_read.proofs.walk.is_walk.Given as goal

abbrev pub invariant-loop-link : goal.invariant-loop-link
invariant-loop-link l = is_walk l.net.net.links (drop l.link-index l.links) l.node l.net.net.sink ≡ is_walk l.net.net.links l.links l.net.net.source l.net.net.sink
