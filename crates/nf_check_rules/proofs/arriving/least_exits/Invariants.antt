use Rattle.std.proofs.Common.{None, option_map}
use Rattle.nf_check_rules.proofs.Common.{passes_Q, with_exit, AreStored, labels_in, loaded_in}
use Rattle.nf_check_rules.proofs.Folding.{Folds}
use Rattle.nf_check_rules.proofs.arriving.least_exits.Given as goal

abbrev pub invariant-loop-number : goal.invariant-loop-number
invariant-loop-number l = record {
  folds : Folds (with_exit passes_Q (labels_in l.worked) (loaded_in l.worked) l.worked.flow.now.reached l.node) l.worked.net.now.net.links None
      (option_map (λ c. c.points) l.least) l.number;
  kept : AreStored l.worked l.exits;
}
