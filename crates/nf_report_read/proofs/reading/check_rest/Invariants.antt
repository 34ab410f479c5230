use Rattle.std.proofs.Common.{◌≡◌, length}
use Rattle.nf_report_read.proofs.Common.{first_fault_of}
use Rattle.nf_report_read.proofs.reading.check_rest.Given as goal

abbrev pub invariant-loop-fault : goal.invariant-loop-fault
invariant-loop-fault l = first_fault_of l.cursor ≡ first_fault_of l.fn.cursor

abbrev pub decreases-loop-fault : goal.decreases-loop-fault
decreases-loop-fault l = length l.cursor
