use Rattle.std.proofs.Common.{ℕ, ◌<◌}
use Rattle.nf_complete_conditions.proofs.Common.{BringsInto}
use Rattle.nf_complete_conditions.proofs.states.is_bare.Given as goal

-- none of the links so far enters the node and is resetting or carries flow
abbrev pub invariant-loop-e : goal.invariant-loop-e
invariant-loop-e l = (k : ℕ) → k < l.e → BringsInto l.net.net l.sets l.flows l.node k → ⊥
