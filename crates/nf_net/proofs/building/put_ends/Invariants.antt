use Rattle.std.proofs.Common.{◌≡◌, drop}
use Rattle.nf_net.proofs.Common.{with_names, ends}
use Rattle.nf_net.proofs.building.put_ends.Given as goal

abbrev pub invariant-loop-link : goal.invariant-loop-link
invariant-loop-link l = with_names l.names (ends (drop l.link-index l.links)) ≡ with_names l.initial.names (ends l.links)
