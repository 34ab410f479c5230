use Rattle.std.proofs.Common.{◌≡◌, ◌<◌, take}
use Rattle.nf_phase_curves.proofs.copies.first_points.Given as goal

abbrev pub invariant-loop-i : goal.invariant-loop-i
invariant-loop-i l = (l.points.points ≡ take l.i l.curve.points) × (0 < l.i)
