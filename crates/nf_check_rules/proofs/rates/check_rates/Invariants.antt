use Rattle.std.proofs.Common.{length}
use Rattle.nf_check_rules.proofs.Common.{passes_Q, link_rates, seen_flow}
use Rattle.nf_check_rules.proofs.Looping.{LeftBelow}
use Rattle.nf_check_rules.proofs.rates.check_rates.Given as goal

abbrev pub invariant-loop-number : goal.invariant-loop-number
invariant-loop-number l = LeftBelow (link_rates passes_Q l.net.net (seen_flow l.flow)) (length l.net.net.links) l.number
