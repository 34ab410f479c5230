use Rattle.nf_thin_one.proofs.Held.{HoldToLink}
use Rattle.nf_thin_one.proofs.small_numbers.has_small_numbers.Given as goal

-- the capacities of the links so far are held
abbrev pub invariant-loop-e : goal.invariant-loop-e
invariant-loop-e l = HoldToLink l.net.net l.e
