use Rattle.std.proofs.Common.{◌≡◌, map, option_map, take}
use Rattle.nf_residual.proofs.Common.{Reach}
use Rattle.nf_residual.proofs.reaches.Reaches.distances.Given as goal

abbrev pub invariant-loop-node : goal.invariant-loop-node
invariant-loop-node l = l.distances.items ≡ map (option_map (λ (reach : Reach). reach.distance)) (take l.node l.self)
