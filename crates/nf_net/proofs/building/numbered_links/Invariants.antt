use Rattle.std.proofs.Common.{◌≡◌, ◌++◌, drop, map}
use Rattle.nf_net.proofs.Common.{numbered}
use Rattle.nf_net.proofs.building.numbered_links.Given as goal

abbrev pub invariant-loop-link : goal.invariant-loop-link
invariant-loop-link l = l.numbers.items ++ map (numbered l.nodes) (drop l.link-index l.links) ≡ map (numbered l.nodes) l.links
