use Rattle.std.proofs.Common.{◌≡◌, ◌++◌, drop}
use Rattle.nf_net.proofs.Common.{without}
use Rattle.nf_net.proofs.building.names_without.Given as goal

abbrev pub invariant-loop-name : goal.invariant-loop-name
invariant-loop-name l = l.others.items ++ without l.these (drop l.name-index l.names) ≡ without l.these l.names
