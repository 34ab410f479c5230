use Rattle.std.proofs.Common.{◌≡◌, ◌++◌, drop, map, not}
use Rattle.nf_net.proofs.Common.{marked, tail_flags}
use Rattle.nf_net.proofs.building.idle_of.Given as goal

abbrev pub invariant-loop-link : goal.invariant-loop-link
invariant-loop-link l =
    l.idle.items ++ marked (map not (tail_flags l.nodes l.flags (drop l.link-index l.links))) (drop l.link-index l.links) ≡ marked
    (map not (tail_flags l.nodes l.flags l.links)) l.links
