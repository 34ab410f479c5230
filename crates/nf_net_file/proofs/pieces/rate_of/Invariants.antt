use Rattle.std.proofs.Common.{◌≡◌, drop}
use Rattle.nf_net_file.proofs.Common.{0ℚ, rate_from}
use Rattle.nf_net_file.proofs.pieces.rate_of.Given as goal

abbrev pub invariant-loop-piece : goal.invariant-loop-piece
invariant-loop-piece l = rate_from l.rate (drop l.piece-index l.pieces) l.time ≡ rate_from 0ℚ l.pieces l.time
