use Rattle.std.proofs.Common.{◌≡◌, ◌++◌, drop}
use Rattle.nf_net.proofs.Common.{marked, tail_flags}
use Rattle.nf_net.proofs.building.active_of.Given as goal

abbrev pub invariant-loop-link : goal.invariant-loop-link
invariant-loop-link l =
    l.active.items ++ marked (tail_flags l.nodes l.flags (drop l.link-index l.links)) (drop l.link-index l.links) ≡ marked
    (tail_flags l.nodes l.flags l.links) l.links
