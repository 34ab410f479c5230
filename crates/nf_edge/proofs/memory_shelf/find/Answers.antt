use Rattle.std.proofs.Common.{rules}
use Rattle.nf_edge.proofs.memory_shelf.find.Goals as goal

pub returns-then-bytes-limit : goal.returns-then-bytes-limit
returns-then-bytes-limit c = search rules
