use Rattle.nf_check_rules.proofs.Common.{balance, in_view}
use Rattle.nf_check_rules.proofs.Looping.{LeftBut}
use Rattle.nf_check_rules.proofs.balances.check_balances_at.Given as goal

abbrev pub invariant-loop-number : goal.invariant-loop-number
invariant-loop-number l = LeftBut (in_view balance l.worked l.supplied.points) l.worked.net.now.net.sink l.worked.net.now.net.nodes l.number
