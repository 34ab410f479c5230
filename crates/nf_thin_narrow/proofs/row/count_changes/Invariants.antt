use Rattle.std.proofs.Common.{◌≡◌, ◌≤◌, ◌+◌, drop}
use Rattle.nf_thin_narrow.proofs.Common.{changes}
use Rattle.nf_thin_narrow.proofs.row.count_changes.Given as goal

-- the links so far are counted
abbrev pub invariant-loop-e : goal.invariant-loop-e
invariant-loop-e l = record { counted : l.count + changes (drop l.e l.base) (drop l.e l.pattern) ≡ changes l.base l.pattern; small : l.count ≤ l.e }
