use Rattle.std.proofs.Common.{◌≡◌, length}
use Rattle.nf_curve.proofs.Common.{passes_Q, each, with_front, both_times, sum_at, IsThere, times_left, KeepBoth}
use Rattle.nf_curve.proofs.sums.sum_points.Given as goal

-- the points so far, and those at the times to come
abbrev pub invariant-loop-now : goal.invariant-loop-now
invariant-loop-now l = record {
  kept : KeepBoth l.left l.right l.kept;
  there : IsThere l.left l.right l.now;
  so_far : with_front l.points.items (each (sum_at passes_Q l.left l.right) (times_left l.left l.right l.now)) ≡ each (sum_at passes_Q l.left l.right) (both_times l.left l.right);
}

abbrev pub decreases-loop-now : goal.decreases-loop-now
decreases-loop-now l = length (times_left l.left l.right l.now)
