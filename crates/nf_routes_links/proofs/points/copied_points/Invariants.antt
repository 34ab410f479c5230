use Rattle.std.proofs.Common.{◌≡◌, ◌++◌, drop}
use Rattle.nf_routes_links.proofs.points.copied_points.Given as goal

abbrev pub invariant-loop-point : goal.invariant-loop-point
invariant-loop-point l = l.copy.items ++ drop l.point-index l.points ≡ l.points
