use Rattle.std.proofs.Common.{◌≡◌, ◌++◌, drop}
use Rattle.nf_net_file.proofs.Common.{hops_among}
use Rattle.nf_net_file.proofs.closing.hops_of.Given as goal

abbrev pub invariant-loop-link : goal.invariant-loop-link
invariant-loop-link l = l.hops.items ++ hops_among l.nodes (drop l.link-index l.links) ≡ hops_among l.nodes l.links
