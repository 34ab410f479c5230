use Rattle.std.proofs.Common.{◌≡◌, ◌≤◌, drop, length}
use Rattle.nf_check_rules.proofs.Common.{greatest_value}
use Rattle.nf_check_rules.proofs.values.greatest_value.Given as goal

abbrev pub invariant-loop-left : goal.invariant-loop-left
invariant-loop-left l = (l.greatest ≡ greatest_value (drop l.left l.curve.points)) × (l.left ≤ length l.curve.points)

abbrev pub decreases-loop-left : goal.decreases-loop-left
decreases-loop-left l = l.left
