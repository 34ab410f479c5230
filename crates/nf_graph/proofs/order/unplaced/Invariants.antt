use Rattle.std.proofs.Common.{ℕ, ◌<◌}
use Rattle.nf_graph.proofs.Common.{Has}
use Rattle.nf_graph.proofs.order.unplaced.Given as goal

-- each of the nodes so far is placed
abbrev pub invariant-loop-v : goal.invariant-loop-v
invariant-loop-v l = (v : ℕ) → v < l.v → Has l.placed v
