use Rattle.std.proofs.Common.{◌≡◌, length}
use Rattle.nf_thin_guess.proofs.part_slopes.slope_table.Given as goal

-- the table keeps its size
abbrev pub invariant-loop-i : goal.invariant-loop-i
invariant-loop-i l = length l.table ≡ l.size
