use Rattle.std.proofs.Common.{◌≡◌, map}
use Rattle.nf_phase_curves.proofs.Common.{all_grown}
use Rattle.nf_phase_curves.proofs.flows.finish_labels.Given as goal

abbrev pub invariant-loop-curve : goal.invariant-loop-curve
invariant-loop-curve l = map (λ c. c.points) l.curves.items ≡ map (λ c. c.points) (all_grown l.yielded)
