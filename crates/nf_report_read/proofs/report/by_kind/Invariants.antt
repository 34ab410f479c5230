use Rattle.std.proofs.Common.{◌≡◌, length}
use Rattle.nf_report_read.proofs.Common.{seen_done, AreSorted}
use Rattle.nf_report_read.proofs.report.by_kind.Given as goal

abbrev pub invariant-loop-curve : goal.invariant-loop-curve
invariant-loop-curve l = (l.index ≡ length l.yielded) × (l.flow.reached ≡ l.fn.reached) × AreSorted (seen_done l.net 0 l.yielded) l.flow
