use Rattle.std.proofs.Common.{◌≡◌, ◌++◌, drop}
use Rattle.nf_net.proofs.Common.{names_of}
use Rattle.nf_net.proofs.building.link_names.Given as goal

abbrev pub invariant-loop-link : goal.invariant-loop-link
invariant-loop-link l = l.names.items ++ names_of (drop l.link-index l.links) ≡ names_of l.links
