use Rattle.std.proofs.Common.{◌≡◌, ◌-◌, drop}
use Rattle.nf_check_rules.proofs.Common.{first_fall}
use Rattle.nf_check_rules.proofs.inflows.first_fall.Given as goal

abbrev pub invariant-loop-i : goal.invariant-loop-i
invariant-loop-i l = first_fall (drop (l.i - 1) l.curve.points) ≡ first_fall l.curve.points
