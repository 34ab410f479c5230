use Rattle.std.proofs.Common.{◌≡◌, ◌≤◌, length, take, reverse}
use Rattle.nf_curve.proofs.Common.{filter, lt_ℚ, passes_Q, each, corner_at, behind}
use Rattle.nf_curve.proofs.composed.add_corners_down.Given as goal

abbrev pub invariant-loop-left : goal.invariant-loop-left
invariant-loop-left l = record {
  within : l.left ≤ length l.between;
  so_far : behind l.composed.items (each (corner_at passes_Q l.p l.q) (filter (λ c. lt_ℚ c.0 l.p.1) (reverse (take l.left l.between))))
      ≡ behind l.fn.composed.items (each (corner_at passes_Q l.p l.q) (filter (λ c. lt_ℚ c.0 l.p.1) (reverse l.between)));
}

abbrev pub decreases-loop-left : goal.decreases-loop-left
decreases-loop-left l = l.left
