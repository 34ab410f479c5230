use Rattle.nf_complete_cycles.proofs.Common.{passes_Q, change_at, SoFar}
use Rattle.nf_complete_cycles.proofs.cancelling.changes.Given as goal

-- the results so far precede the results of the other links
abbrev pub invariant-loop-e : goal.invariant-loop-e
invariant-loop-e l = SoFar (change_at passes_Q l.steps l.amount) l.flows l.new.items l.e
