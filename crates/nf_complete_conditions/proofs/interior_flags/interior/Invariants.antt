use Rattle.std.proofs.Common.{◌≡◌, take}
use Rattle.nf_complete_conditions.proofs.Common.{interior_flags}
use Rattle.nf_complete_conditions.proofs.interior_flags.interior.Given as goal

-- the flags of the links so far
abbrev pub invariant-loop-e : goal.invariant-loop-e
invariant-loop-e l = l.flags.items ≡ take l.e (interior_flags l.sets l.fulls l.flows)
