use Rattle.std.proofs.Common.{◌≡◌, ◌+◌, length, take, replicate}
use Rattle.nf_linear.proofs.Common.{0ℚ}
use Rattle.nf_linear.proofs.grid.wipe.Given as goal

abbrev pub invariant-loop-i : goal.invariant-loop-i
invariant-loop-i g l = (take l.i l.rows ≡ replicate l.i (replicate (l.size + 1) 0ℚ)) × (length l.rows ≡ length l.fn.rows)
