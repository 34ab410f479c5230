use Rattle.nf_complete_cycles.proofs.Cycling.{AreBefore}
use Rattle.nf_complete_cycles.proofs.cycle.first_cycle.Given as goal

-- the chosen links so far are a forest
abbrev pub invariant-loop-e : goal.invariant-loop-e
invariant-loop-e l = AreBefore l.hops l.chosen l.e l.before.items
