use Rattle.nf_complete_cycles.proofs.Common.{passes_Q, room_at, SoFar}
use Rattle.nf_complete_cycles.proofs.cancelling.rooms.Given as goal

-- the results so far precede the results of the other links
abbrev pub invariant-loop-e : goal.invariant-loop-e
invariant-loop-e l = SoFar (room_at passes_Q l.steps l.fulls) l.flows l.rooms.items l.e
