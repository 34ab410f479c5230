use Rattle.nf_complete_conditions.proofs.Common.{range_with_len, passes_Q, sums_at, IsBalanced}
use Rattle.nf_complete_conditions.proofs.Telling.{ToldBelow}
use Rattle.nf_complete_conditions.proofs.node_sums.balances.Given as goal

-- the answer for the nodes so far
abbrev pub invariant-loop-v : goal.invariant-loop-v
invariant-loop-v l = ToldBelow (sums_at passes_Q l.net.net l.sets l.rate l.flows) (IsBalanced l.net.net l.sets l.rate l.flows) (range_with_len 0 l.net.net.nodes) l.v l.all
