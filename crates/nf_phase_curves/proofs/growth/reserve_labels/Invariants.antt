use Rattle.nf_phase_curves.proofs.Places.{RoomBelow}
use Rattle.nf_phase_curves.proofs.growth.reserve_labels.Given as goal

abbrev pub invariant-loop-i : goal.invariant-loop-i
invariant-loop-i l = RoomBelow l.fn.curves l.curves l.i
