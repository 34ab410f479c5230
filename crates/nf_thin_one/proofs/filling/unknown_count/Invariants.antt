use Rattle.std.proofs.Common.{◌≡◌, ◌+◌}
use Rattle.nf_thin_one.proofs.ActivePlaces.{active_before}
use Rattle.nf_thin_one.proofs.filling.unknown_count.Given as goal

abbrev pub invariant-loop-e : goal.invariant-loop-e
invariant-loop-e l = l.count ≡ l.net.net.nodes + active_before l.sets.active l.e
