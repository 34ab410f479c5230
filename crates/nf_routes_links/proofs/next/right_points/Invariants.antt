use Rattle.std.proofs.Common.{◌≡◌, ◌++◌, drop, map}
use Rattle.nf_routes_links.proofs.Common.{sides_of, right_point}
use Rattle.nf_routes_links.proofs.next.right_points.Given as goal

abbrev pub invariant-loop-sides : goal.invariant-loop-sides
invariant-loop-sides l = l.points.items ++ map right_point (map sides_of (drop l.sides-index l.all)) ≡ map right_point (map sides_of l.all)
