use Rattle.std.proofs.Common.{ℕ, ◌<◌, Bool}
use Rattle.nf_complete_cycles.proofs.Common.{StepsOut}
use Rattle.nf_complete_cycles.proofs.way.next_step.Given as goal

-- none of the links so far leads out
abbrev pub invariant-loop-e : goal.invariant-loop-e
invariant-loop-e l = (k : ℕ) → k < l.e → (forward : Bool) → StepsOut l.hops l.chosen l.flags (k, forward) → ⊥
