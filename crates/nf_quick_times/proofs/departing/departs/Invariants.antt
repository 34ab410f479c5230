use Rattle.nf_quick_times.proofs.Common.{passes_Q}
use Rattle.nf_quick_times.proofs.PieceByPiece.{Comes}
use Rattle.nf_quick_times.proofs.departing.departs.Given as goal

abbrev pub invariant-loop-index : goal.invariant-loop-index
invariant-loop-index l = Comes passes_Q l.net.net l.amount l.known l.index
