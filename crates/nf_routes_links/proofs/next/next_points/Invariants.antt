use Rattle.std.proofs.Common.{◌≡◌, ◌∷◌, ◌++◌, drop, map}
use Rattle.nf_routes_links.proofs.Common.{0ℚ, sides_of, next_from}
use Rattle.nf_routes_links.proofs.next.next_points.Given as goal

abbrev pub invariant-loop-sides : goal.invariant-loop-sides
invariant-loop-sides l = l.points.items ++ next_from l.last (map sides_of (drop l.sides-index l.all)) ≡ (0ℚ, 0ℚ) ∷ next_from 0ℚ (map sides_of l.all)
