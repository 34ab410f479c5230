use Rattle.std.proofs.Common.{◌≤◌}
use Rattle.nf_pattern.proofs.Filling.{AreFilled}
use Rattle.nf_pattern.proofs.assignments.fill.Given as goal

-- the links so far have their states
abbrev pub invariant-loop-i : goal.invariant-loop-i
invariant-loop-i l = record { filled : AreFilled l.base l.unbounded l.fn.changes l.states l.i l.left l.later; small : l.later ≤ l.fn.more }
