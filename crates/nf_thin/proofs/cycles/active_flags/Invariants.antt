use Rattle.std.proofs.Common.{◌≡◌, take}
use Rattle.nf_thin.proofs.cycles.active_flags.Given as goal

-- the flags of the links so far
abbrev pub invariant-loop-e : goal.invariant-loop-e
invariant-loop-e l = l.flags.items ≡ take l.e l.sets.active
