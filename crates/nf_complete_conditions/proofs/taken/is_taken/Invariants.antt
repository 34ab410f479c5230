use Rattle.std.proofs.Common.{ℕ, ◌<◌}
use Rattle.nf_complete_conditions.proofs.Common.{Takes}
use Rattle.nf_complete_conditions.proofs.taken.is_taken.Given as goal

-- the node takes its slope from none of the links so far
abbrev pub invariant-loop-e : goal.invariant-loop-e
invariant-loop-e l = (k : ℕ) → k < l.e → Takes l.net.net l.sets l.flows l.slopes l.node k → ⊥
