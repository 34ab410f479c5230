use Rattle.nf_resume.proofs.Common.{passes_Q, cut_short, points_of_each}
use Rattle.nf_resume.proofs.Looping.{Front}
use Rattle.nf_resume.proofs.cutting.cut_labels.Given as goal

abbrev pub invariant-loop-label : goal.invariant-loop-label
invariant-loop-label l = Front (cut_short passes_Q l.reached) (points_of_each l.labels) l.label-index (points_of_each l.cuts.items)
