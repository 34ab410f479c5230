use Rattle.std.proofs.Common.{◌≡◌, length}
use Rattle.nf_quick_times.proofs.Common.{passes_Q}
use Rattle.nf_quick_times.proofs.NodeByNode.{TimesOn}
use Rattle.nf_quick_times.proofs.cut.node_times.Given as goal

abbrev pub invariant-loop-node : goal.invariant-loop-node
invariant-loop-node l = record { times : TimesOn passes_Q l.time l.from_source l.from_sink l.cut.items l.node; count : length l.cut.items ≡ l.node }
