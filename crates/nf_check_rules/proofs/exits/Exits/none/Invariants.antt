use Rattle.std.proofs.Common.{◌≡◌, replicate, None}
use Rattle.nf_check_rules.proofs.exits.Exits.none.Given as goal

abbrev pub invariant-loop : goal.invariant-loop
invariant-loop l = l.kept.items ≡ replicate l.counter None
