use Rattle.std.proofs.Common.{◌≡◌, ℕ, ◌-◌, ◌≤◌, List, drop, length}
use Rattle.nf_linear.proofs.Common.{pivot_from, AreTaken}
use Rattle.nf_linear.proofs.elimination.pivot_of.Given as goal

abbrev pub invariant-loop-i : goal.invariant-loop-i
invariant-loop-i g l = ((pivots : List ℕ) → AreTaken l.taken pivots → pivot_from l.i (drop l.i l.rows) pivots l.column ≡ pivot_from 0 l.rows pivots l.column) × (l.i ≤ length l.rows)

abbrev pub decreases-loop-i : goal.decreases-loop-i
decreases-loop-i g l = length l.rows - l.i
