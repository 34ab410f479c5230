use Rattle.std.proofs.Common.{◌≡◌, [], drop}
use Rattle.nf_complete_cycles.proofs.Common.{round_onto}
use Rattle.nf_complete_cycles.proofs.cycle.rounded.Given as goal

abbrev pub invariant-loop-step : goal.invariant-loop-step
invariant-loop-step l = round_onto l.all.items (drop l.step-index l.steps) ≡ round_onto [] l.steps
