use Rattle.std.proofs.Common.{◌≡◌, drop}
use Rattle.nf_edge.specs.Memory.{told_under}
use Rattle.nf_edge.proofs.memory_shelf.bytes_under.Given as goal

abbrev pub invariant-loop-file : goal.invariant-loop-file
invariant-loop-file l = told_under l.files l.name ≡ told_under (drop l.file-index l.files) l.name
