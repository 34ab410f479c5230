use Rattle.std.proofs.Common.{◌≡◌, map, take}
use Rattle.nf_phase_curves.proofs.Common.{all_grown}
use Rattle.nf_phase_curves.proofs.flows.copy_labels.Given as goal

abbrev pub invariant-loop-curve : goal.invariant-loop-curve
invariant-loop-curve l = map (λ c. c.points) l.curves.items ≡ map (λ c. c.points) (all_grown (take l.curve-index l.growing))
