use Rattle.std.proofs.Common.{◌≡◌, ℕ, ◌<◌, length, get_or}
use Rattle.nf_linear.proofs.Common.{0ℚ, number_at, row_at, IsFree}
use Rattle.nf_linear.proofs.elimination.mark_rows.Given as goal

abbrev pub invariant-loop-i : goal.invariant-loop-i
invariant-loop-i g l =
    (column : ℕ) → column < length l.columns → (k : ℕ) → k < l.i → IsFree (get_or l.columns column 0) k → number_at (row_at l.rows k) column ≡ 0ℚ
