use Rattle.std.proofs.Common.{◌≡◌, drop}
use Rattle.nf_check.proofs.Common.{negative_point}
use Rattle.nf_check.proofs.labels.negative_point.Given as goal

abbrev pub invariant-loop-i : goal.invariant-loop-i
invariant-loop-i l = negative_point (drop l.i l.curve.points) ≡ negative_point l.curve.points
