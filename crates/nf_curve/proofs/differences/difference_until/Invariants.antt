use Rattle.std.proofs.Common.{◌≡◌, ◌≤◌, length, IfSome}
use Rattle.nf_curve.proofs.Common.{◌<ℚ◌, passes_Q, times_before, difference_from, checked_difference, count_until, IsThere, times_left, KeepBoth}
use Rattle.nf_curve.proofs.differences.difference_until.Given as goal

-- no difference so far: what the times to come give is what all of them give
abbrev pub invariant-loop-now : goal.invariant-loop-now
invariant-loop-now l = record {
  kept : KeepBoth l.left l.right l.kept;
  there : IsThere l.left l.right l.now;
  before : IfSome l.now (λ moment. moment.time <ℚ l.fn.last);
  left_place : l.places.0 ≤ count_until l.fn.last l.left;
  right_place : l.places.1 ≤ count_until l.fn.last l.right;
  so_far : difference_from passes_Q l.left l.right l.fn.last (times_before l.fn.last (times_left l.left l.right l.now)) ≡ checked_difference passes_Q l.left l.right l.fn.last;
}

abbrev pub decreases-loop-now : goal.decreases-loop-now
decreases-loop-now l = length (times_left l.left l.right l.now)
