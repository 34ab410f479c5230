use Rattle.std.proofs.Common.{◌≡◌, drop}
use Rattle.nf_net_file.proofs.Common.{first_start}
use Rattle.nf_net_file.proofs.pieces.start_after.Given as goal

abbrev pub invariant-loop-piece : goal.invariant-loop-piece
invariant-loop-piece l = first_start (drop l.piece-index l.pieces) l.time ≡ first_start l.pieces l.time
