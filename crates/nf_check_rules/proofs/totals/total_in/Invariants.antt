use Rattle.nf_check_rules.proofs.Common.{passes_Q, no_amount, with_outflow, loadings_of}
use Rattle.nf_check_rules.proofs.Folding.{Folds}
use Rattle.nf_check_rules.proofs.totals.total_in.Given as goal

abbrev pub invariant-loop-number : goal.invariant-loop-number
invariant-loop-number l = Folds (with_outflow passes_Q (loadings_of l.loaded) l.node) l.net.net.links no_amount l.total.points l.number
