use Rattle.std.proofs.Common.{◌≡◌, ◌++◌, drop}
use Rattle.std.specs.List.{flat_map}
use Rattle.corridor_tolls.specs.Tolls.{toll_at}
use Rattle.corridor_tolls.proofs.tolls.push_points.Given as goal

-- the lines so far, and those of the points from here on
abbrev pub invariant-loop-point : goal.invariant-loop-point
invariant-loop-point l = l.out.items ++ flat_map (toll_at l.capacity l.name) (drop l.point-index l.points) ≡ l.initial.out.items ++ flat_map (toll_at l.capacity l.name) l.points
