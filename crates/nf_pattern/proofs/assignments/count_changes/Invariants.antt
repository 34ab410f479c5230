use Rattle.std.proofs.Common.{◌≡◌, ◌+◌, ◌≤◌, drop}
use Rattle.nf_pattern.proofs.Common.{changes}
use Rattle.nf_pattern.proofs.assignments.count_changes.Given as goal

-- the links so far are counted
abbrev pub invariant-loop-i : goal.invariant-loop-i
invariant-loop-i l = record { counted : l.count + changes (drop l.i l.base) (drop l.i l.states) ≡ changes l.base l.states; small : l.count ≤ l.i }
