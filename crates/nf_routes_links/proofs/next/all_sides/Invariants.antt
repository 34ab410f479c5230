use Rattle.std.proofs.Common.{◌≡◌, length, map}
use Rattle.nf_routes_links.proofs.Common.{passes_Q, each, with_front, both_times, sides_at, sides_of}
use Rattle.nf_curve.specs.Moments.{IsThere, times_left}
use Rattle.nf_routes_links.proofs.next.all_sides.Given as goal

-- the sides so far, and those at the times to come
abbrev pub invariant-loop-now : goal.invariant-loop-now
invariant-loop-now l = record {
  there : IsThere l.left l.right l.now;
  so_far : with_front (map sides_of l.all.items) (each (sides_at passes_Q l.left l.right) (times_left l.left l.right l.now)) ≡ each
      (sides_at passes_Q l.left l.right) (both_times l.left l.right);
}

abbrev pub decreases-loop-now : goal.decreases-loop-now
decreases-loop-now l = length (times_left l.left l.right l.now)
