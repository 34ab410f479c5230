use Rattle.std.proofs.Common.{◌≡◌, ◌++◌, drop}
use Rattle.nf_curve.proofs.Common.{points_before}
use Rattle.nf_curve.proofs.cut.add_before.Given as goal

abbrev pub invariant-loop-point : goal.invariant-loop-point
invariant-loop-point l = l.cut.items ++ points_before l.fn.last (drop l.point-index l.points) ≡ l.fn.cut.items ++ points_before l.fn.last l.points
