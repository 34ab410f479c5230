use Rattle.nf_check_rules.proofs.Common.{queue_rule, in_view}
use Rattle.nf_check_rules.proofs.Looping.{LeftLinks}
use Rattle.nf_check_rules.proofs.told.check_queues.Given as goal

abbrev pub invariant-loop-number : goal.invariant-loop-number
invariant-loop-number l = LeftLinks (in_view queue_rule l.worked) l.worked.net.now.net.links l.number
