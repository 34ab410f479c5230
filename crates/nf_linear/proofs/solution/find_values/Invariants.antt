use Rattle.std.proofs.Common.{◌≡◌, length, take, map}
use Rattle.nf_linear.proofs.Values.{ValuesSoFar}
use Rattle.nf_linear.proofs.solution.find_values.Given as goal

abbrev pub invariant-loop-column : goal.invariant-loop-column
invariant-loop-column g l =
    ValuesSoFar g.C.Number.Scalar.passes l.rows l.pivots (map g.C.Number.Scalar.means (take l.column l.found)) l.column × (length l.found ≡ length l.fn.found)
