use Rattle.std.proofs.Common.{take}
use Rattle.nf_check.proofs.Common.{passes_Q, label_cut, seen_flow, points_of_each, FrontBelow}
use Rattle.nf_check.proofs.labels.check_labels.Given as goal

abbrev pub invariant-loop-number : goal.invariant-loop-number
invariant-loop-number l = FrontBelow (label_cut passes_Q l.net.net (seen_flow l.flow)) l.net.net.nodes l.number (take l.number (points_of_each l.flow.labels.items))
