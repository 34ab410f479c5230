use Rattle.nf_complete_cycles.proofs.Common.{free}
use Rattle.nf_complete_cycles.proofs.Growing.{IsGrown}
use Rattle.nf_complete_cycles.proofs.way.way.Given as goal

-- the flags are those of the nodes of the tree
abbrev pub invariant-loop-step : goal.invariant-loop-step
invariant-loop-step l = IsGrown l.hops l.chosen l.fn.from l.nodes l.flags.items l.tree.items

abbrev pub decreases-loop-step : goal.decreases-loop-step
decreases-loop-step l = free l.flags.items
