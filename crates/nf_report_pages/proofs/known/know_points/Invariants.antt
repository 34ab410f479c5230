use Rattle.std.proofs.Common.{take}
use Rattle.nf_report_pages.proofs.Common.{AreFractionPoints}
use Rattle.nf_report_pages.proofs.known.know_points.Given as goal

abbrev pub invariant-loop-index : goal.invariant-loop-index
invariant-loop-index l = AreFractionPoints (take l.index l.curve.points)
