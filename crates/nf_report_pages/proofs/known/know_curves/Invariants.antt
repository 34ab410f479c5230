use Rattle.std.proofs.Common.{take}
use Rattle.nf_report_pages.proofs.Common.{AllByRecursion, Grown, AreFractionPoints}
use Rattle.nf_report_pages.proofs.known.know_curves.Given as goal

abbrev pub invariant-loop-curve : goal.invariant-loop-curve
invariant-loop-curve l = AllByRecursion (λ (curve : Grown). AreFractionPoints curve.points) (take l.curve-index l.curves)
