use Rattle.std.proofs.Common.{◌≡◌, length, IfSome}
use Rattle.nf_curve.proofs.Common.{◌<ℚ◌, passes_Q, with_front, both_times, least_after, least_from, sides_of, IsThere, times_left, KeepBoth}
use Rattle.nf_curve.proofs.least.least_points.Given as goal

-- the points so far, and those at the times to come
abbrev pub invariant-loop-now : goal.invariant-loop-now
invariant-loop-now l = record {
  kept : KeepBoth l.left l.right l.kept;
  there : IsThere l.left l.right l.now;
  later : IfSome l.now (λ next. l.before.time <ℚ next.time);
  so_far : with_front l.points.items (least_after passes_Q l.left l.right (sides_of l.before) (times_left l.left l.right l.now))
      ≡ least_from passes_Q l.left l.right (both_times l.left l.right);
}

abbrev pub decreases-loop-now : goal.decreases-loop-now
decreases-loop-now l = length (times_left l.left l.right l.now)
