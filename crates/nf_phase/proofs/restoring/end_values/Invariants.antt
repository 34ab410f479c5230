use Rattle.std.proofs.Common.{◌≡◌, map, take}
use Rattle.nf_phase.proofs.Common.{value_at_end}
use Rattle.nf_phase.proofs.restoring.end_values.Given as goal

abbrev pub invariant-loop-curve : goal.invariant-loop-curve
invariant-loop-curve l = l.values.items ≡ map (λ c. value_at_end c.points) (take l.curve-index l.curves)
