use Rattle.std.proofs.Common.{◌≤◌, length}
use Rattle.nf_curve.proofs.places.place_down.Given as goal

abbrev pub invariant-loop-place : goal.invariant-loop-place
invariant-loop-place l = l.place ≤ length l.points

abbrev pub decreases-loop-place : goal.decreases-loop-place
decreases-loop-place l = l.place
