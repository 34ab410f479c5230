use Rattle.std.proofs.Common.{◌≡◌, drop}
use Rattle.nf_phase.proofs.Common.{none_starts}
use Rattle.nf_phase.proofs.open_runs.none_starts.Given as goal

abbrev pub invariant-loop-piece : goal.invariant-loop-piece
invariant-loop-piece l = none_starts (drop l.piece-index l.pieces) l.time ≡ none_starts l.pieces l.time
