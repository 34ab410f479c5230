use Rattle.std.proofs.Common.{◌≡◌, fold, take}
use Rattle.library_callers.specs.Greatest.{taller}
use Rattle.library_callers.proofs.greatest.greatest_point.Given as goal

abbrev pub invariant-loop-point : goal.invariant-loop-point
invariant-loop-point l = l.greatest ≡ fold (taller l.fn.last) l.fn.end (take l.point-index l.points)
