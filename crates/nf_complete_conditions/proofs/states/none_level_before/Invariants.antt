use Rattle.std.proofs.Common.{ℕ, ◌<◌}
use Rattle.nf_complete_conditions.proofs.Common.{LevelInto}
use Rattle.nf_complete_conditions.proofs.states.none_level_before.Given as goal

-- none of the links so far has equal slopes
abbrev pub invariant-loop-e : goal.invariant-loop-e
invariant-loop-e l = (k : ℕ) → k < l.e → LevelInto l.net.net l.sets l.slopes l.node k → ⊥
