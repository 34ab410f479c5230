use Rattle.std.proofs.Common.{◌≡◌, ◌≤◌}
use Rattle.nf_pattern.proofs.Raising.{AreLast}
use Rattle.nf_pattern.proofs.assignments.Order.raise_from.Given as goal

-- none of the links so far can be raised
abbrev pub invariant-loop-i : goal.invariant-loop-i
invariant-loop-i l =
    record {
      kept : l.states ≡ l.initial.states;
      below : l.i ≤ l.same;
      last : AreLast l.self.base.now l.self.unbounded.now l.self.sole.now l.initial.states
          l.same l.i l.changes l.more;
    }

abbrev pub decreases-loop-i : goal.decreases-loop-i
decreases-loop-i l = l.i
