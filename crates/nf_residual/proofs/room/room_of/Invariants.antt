use Rattle.std.proofs.Common.{None}
use Rattle.nf_residual.proofs.Common.{passes_Q, room_after}
use Rattle.nf_residual.proofs.Folding.{FoldsOn}
use Rattle.nf_residual.proofs.room.room_of.Given as goal

abbrev pub invariant-loop-step : goal.invariant-loop-step
invariant-loop-step l = FoldsOn (room_after passes_Q l.net.net l.flows) l.steps None l.least l.step-index
