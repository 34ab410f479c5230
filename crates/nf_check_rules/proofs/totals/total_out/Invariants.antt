use Rattle.nf_check_rules.proofs.Common.{passes_Q, points_of, no_amount, with_inflow, seen_flow}
use Rattle.nf_check_rules.proofs.Folding.{Folds}
use Rattle.nf_check_rules.proofs.totals.total_out.Given as goal

abbrev pub invariant-loop-number : goal.invariant-loop-number
invariant-loop-number l = Folds (with_inflow passes_Q (points_of (seen_flow l.flow).inflows) l.node) l.net.net.links no_amount l.total.points l.number
