use Rattle.std.proofs.Common.{◌≡◌, ◌-◌, Some, drop, slice_get}
use Rattle.nf_curve.proofs.Common.{ℚ, passes_Q, composed_all, count_until, behind, KeepsSlope}
use Rattle.nf_curve.proofs.composed.composed_points.Given as goal

-- the points so far, and those of the pieces from this one on
abbrev pub invariant-loop-i : goal.invariant-loop-i
invariant-loop-i l = record {
  kept : KeepsSlope l.outer l.place.kept;
  place : (p : ℚ × ℚ) → slice_get l.inner (l.i - 1) ≡ Some p → l.place.count ≡ count_until p.1 l.outer;
  so_far : behind l.composed.items (composed_all passes_Q l.outer (drop (l.i - 1) l.inner)) ≡ composed_all passes_Q l.outer l.inner;
}
