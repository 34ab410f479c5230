use Rattle.nf_complete_conditions.proofs.Common.{passes_Q, full_at, SoFar}
use Rattle.nf_complete_conditions.proofs.filled.fulls.Given as goal

-- the flows that fill the links so far precede those of the other links
abbrev pub invariant-loop-e : goal.invariant-loop-e
invariant-loop-e l = SoFar (full_at passes_Q l.sets l.slopes) l.net.net.links l.fulls.items l.e
