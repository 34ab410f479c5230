use Rattle.std.proofs.Common.{◌≡◌, drop}
use Rattle.nf_net.proofs.Common.{0ℚ, passes_Q, supplied_after}
use Rattle.nf_net.proofs.amounts.amount_of.Given as goal

abbrev pub invariant-loop-index : goal.invariant-loop-index
invariant-loop-index l = supplied_after passes_Q l.so_far (drop l.index l.pieces) l.time ≡ supplied_after passes_Q 0ℚ l.pieces l.time
