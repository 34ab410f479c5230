use Rattle.std.proofs.Common.{length}
use Rattle.nf_check_rules.proofs.Common.{passes_Q, inflow_rule, seen_flow}
use Rattle.nf_check_rules.proofs.Looping.{LeftBelow}
use Rattle.nf_check_rules.proofs.inflows.check_inflows.Given as goal

abbrev pub invariant-loop-number : goal.invariant-loop-number
invariant-loop-number l = LeftBelow (inflow_rule passes_Q l.net.net (seen_flow l.flow)) (length l.net.net.links) l.number
