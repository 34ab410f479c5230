use Rattle.std.proofs.Common.{◌≡◌, drop, None}
use Rattle.nf_complete_cycles.proofs.Common.{lowest_from}
use Rattle.nf_complete_cycles.proofs.cycle.lowest.Given as goal

abbrev pub invariant-loop-step : goal.invariant-loop-step
invariant-loop-step l = lowest_from l.best (drop l.step-index l.steps) ≡ lowest_from None l.steps
