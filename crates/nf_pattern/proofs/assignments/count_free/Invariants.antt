use Rattle.std.proofs.Common.{◌≡◌, ◌+◌, ◌≤◌, drop}
use Rattle.nf_pattern.proofs.Common.{free}
use Rattle.nf_pattern.proofs.assignments.count_free.Given as goal

-- the links so far are counted
abbrev pub invariant-loop-i : goal.invariant-loop-i
invariant-loop-i l = record { counted : l.count + free (drop l.i l.base) ≡ free l.base; small : l.count ≤ l.i }
