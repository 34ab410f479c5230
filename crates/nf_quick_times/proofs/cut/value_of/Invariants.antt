use Rattle.nf_quick_times.proofs.Common.{passes_Q}
use Rattle.nf_quick_times.proofs.NodeByNode.{ValuesOn}
use Rattle.nf_quick_times.proofs.cut.value_of.Given as goal

abbrev pub invariant-loop-number : goal.invariant-loop-number
invariant-loop-number l = ValuesOn passes_Q l.net.net.links l.cut l.value l.number
