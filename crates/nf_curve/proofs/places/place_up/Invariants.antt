use Rattle.std.proofs.Common.{◌≤◌, ◌-◌, length}
use Rattle.nf_curve.proofs.Common.{count_until}
use Rattle.nf_curve.proofs.places.place_up.Given as goal

abbrev pub invariant-loop-place : goal.invariant-loop-place
invariant-loop-place l = l.place ≤ count_until l.fn.time l.points

abbrev pub decreases-loop-place : goal.decreases-loop-place
decreases-loop-place l = length l.points - l.place
