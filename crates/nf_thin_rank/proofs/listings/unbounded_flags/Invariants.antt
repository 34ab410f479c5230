use Rattle.std.proofs.Common.{◌≡◌, take}
use Rattle.nf_thin_rank.proofs.Common.{unbounded}
use Rattle.nf_thin_rank.proofs.listings.unbounded_flags.Given as goal

abbrev pub invariant-loop-e : goal.invariant-loop-e
invariant-loop-e l = l.flags.items ≡ take l.e (unbounded l.net.net)
