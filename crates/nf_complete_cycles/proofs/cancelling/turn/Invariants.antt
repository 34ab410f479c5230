use Rattle.std.proofs.Common.{◌≡◌, drop}
use Rattle.nf_complete_cycles.proofs.Common.{turn_of}
use Rattle.nf_complete_cycles.proofs.cancelling.turn.Given as goal

abbrev pub invariant-loop-step : goal.invariant-loop-step
invariant-loop-step l = turn_of (drop l.step-index l.steps) l.link ≡ turn_of l.steps l.link
