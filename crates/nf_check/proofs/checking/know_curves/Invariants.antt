use Rattle.std.proofs.Common.{ℕ, ◌<◌}
use Rattle.nf_check.proofs.Common.{IsCurve, points_at, points_of_each}
use Rattle.nf_check.proofs.checking.know_curves.Given as goal

abbrev pub invariant-loop-curve : goal.invariant-loop-curve
invariant-loop-curve l = (k : ℕ) → k < l.curve-index → IsCurve (points_at (points_of_each l.curves) k)
