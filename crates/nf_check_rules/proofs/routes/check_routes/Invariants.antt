use Rattle.nf_check_rules.proofs.Common.{route, AreStored, in_view}
use Rattle.nf_check_rules.proofs.Looping.{LeftLinks}
use Rattle.nf_check_rules.proofs.routes.check_routes.Given as goal

abbrev pub invariant-loop-number : goal.invariant-loop-number
invariant-loop-number l = record {
  left : LeftLinks (in_view route l.worked) l.worked.net.now.net.links l.number;
  kept : AreStored l.worked l.exits;
}
