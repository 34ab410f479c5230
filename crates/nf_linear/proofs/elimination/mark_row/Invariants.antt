use Rattle.std.proofs.Common.{◌≡◌, ℕ, ◌-◌, ◌<◌, ◌≤◌, length, get_or}
use Rattle.nf_linear.proofs.Common.{0ℚ, number_at, IsFree, IsSubset}
use Rattle.nf_linear.proofs.elimination.mark_row.Given as goal

abbrev pub invariant-loop-at : goal.invariant-loop-at
invariant-loop-at g l =
    ((column : ℕ) → column < l.at → IsFree (get_or l.columns column 0) l.number → number_at l.row column ≡ 0ℚ)
    × ((column : ℕ) → IsSubset (get_or l.fn.columns column 0) (get_or l.columns column 0)) × (l.at ≤ length l.columns)

abbrev pub decreases-loop-at : goal.decreases-loop-at
decreases-loop-at g l = length l.columns - l.at
