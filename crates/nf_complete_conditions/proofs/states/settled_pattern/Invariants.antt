use Rattle.nf_complete_conditions.proofs.Stating.{StatesBelow}
use Rattle.nf_complete_conditions.proofs.states.settled_pattern.Given as goal

-- the links so far have their states
abbrev pub invariant-loop-e : goal.invariant-loop-e
invariant-loop-e l = StatesBelow l.net.net l.sets l.flows l.slopes l.e l.pattern
