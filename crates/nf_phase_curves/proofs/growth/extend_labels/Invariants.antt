use Rattle.nf_phase_curves.proofs.Common.{label_curves_after, all_grown}
use Rattle.nf_phase_curves.proofs.Places.{GrownBelow}
use Rattle.nf_phase_curves.proofs.growth.extend_labels.Given as goal

abbrev pub invariant-loop-v : goal.invariant-loop-v
invariant-loop-v l = GrownBelow (label_curves_after l.time l.labels l.slopes (all_grown l.fn.curves)) l.fn.curves l.curves l.v
