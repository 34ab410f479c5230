use Rattle.std.proofs.Common.{◌-◌, ◌≤◌, length}
use Rattle.nf_linear.proofs.Common.{AreSameUnless, meant}
use Rattle.nf_linear.proofs.Clearing.{ClearedSoFar}
use Rattle.nf_linear.proofs.elimination.clear_rows.Given as goal

abbrev pub invariant-loop-i : goal.invariant-loop-i
invariant-loop-i g l =
    ClearedSoFar g.C.Number.Scalar.passes l.column l.pivot (g.C.Number.Scalar.means l.own) (meant g.C.Number.Scalar.means l.later) l.fn.rows l.rows l.i
    × AreSameUnless l.cleared l.rows l.fn.rows × (l.i ≤ length l.rows)

abbrev pub decreases-loop-i : goal.decreases-loop-i
decreases-loop-i g l = length l.rows - l.i
