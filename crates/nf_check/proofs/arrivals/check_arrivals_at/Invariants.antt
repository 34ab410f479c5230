use Rattle.nf_check.proofs.Common.{arrivals, in_view, LeftBut}
use Rattle.nf_check_rules.specs.Exits.{AreStored}
use Rattle.nf_check.proofs.arrivals.check_arrivals_at.Given as goal

abbrev pub invariant-loop-number : goal.invariant-loop-number
invariant-loop-number l = record {
  left : LeftBut (in_view arrivals l.worked) l.worked.net.now.net.source l.worked.net.now.net.nodes l.number;
  kept : AreStored l.worked l.exits;
}
