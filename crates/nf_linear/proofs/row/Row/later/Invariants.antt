use Rattle.std.proofs.Common.{◌≡◌, ◌+◌, ◌-◌, ◌≤◌, ◌++◌, take, drop, length}
use Rattle.nf_linear.proofs.Common.{meant, some_from}
use Rattle.nf_linear.proofs.row.Row.later.Given as goal

abbrev pub invariant-loop-at : goal.invariant-loop-at
invariant-loop-at g l =
    (meant g.C.Number.Scalar.means (take l.count l.entries) ++ some_from l.at (drop l.at l.self) ≡ some_from (l.column + 1) (drop (l.column + 1) l.self))
    × (l.count + l.column + 1 ≤ l.at) × (l.at ≤ l.right) × (length l.entries ≡ length l.fn.entries)

abbrev pub decreases-loop-at : goal.decreases-loop-at
decreases-loop-at g l = l.right - l.at
