use Rattle.std.proofs.Common.{◌≡◌, length}
use Rattle.nf_thin_guess.proofs.part_slopes.set_rights.Given as goal

abbrev pub invariant-loop-row : goal.invariant-loop-row
invariant-loop-row l = length l.table ≡ l.size
