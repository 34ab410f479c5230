use Rattle.std.proofs.Common.{◌≡◌, map, take}
use Rattle.nf_phase_curves.proofs.Common.{first_label_curve, all_grown}
use Rattle.nf_phase_curves.proofs.growth.first_labels.Given as goal

abbrev pub invariant-loop-label : goal.invariant-loop-label
invariant-loop-label l = all_grown l.curves.items ≡ map first_label_curve (take l.label-index l.labels)
