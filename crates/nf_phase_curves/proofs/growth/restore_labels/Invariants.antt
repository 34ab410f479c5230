use Rattle.std.proofs.Common.{map}
use Rattle.nf_phase_curves.proofs.Common.{passes_Q, growing, all_grown}
use Rattle.nf_phase_curves.proofs.OneByOne.{SoFar}
use Rattle.nf_phase_curves.proofs.growth.restore_labels.Given as goal

abbrev pub invariant-loop-curve : goal.invariant-loop-curve
invariant-loop-curve l = SoFar (growing passes_Q) (map (λ c. c.points) l.curves) (all_grown l.grown.items) l.curve-index
