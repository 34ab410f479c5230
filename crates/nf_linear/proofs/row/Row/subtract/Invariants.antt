use Rattle.nf_linear.proofs.Common.{meant}
use Rattle.nf_linear.proofs.Taken.{TakesOff}
use Rattle.nf_linear.proofs.row.Row.subtract.Given as goal

abbrev pub invariant-loop-other : goal.invariant-loop-other
invariant-loop-other g l = TakesOff g.C.Number.Scalar.passes (g.C.Number.Scalar.means l.factor) (meant g.C.Number.Scalar.means l.others) l.fn.self l.self l.other-index
