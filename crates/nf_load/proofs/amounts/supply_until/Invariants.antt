use Rattle.std.proofs.Common.{◌≡◌, drop}
use Rattle.nf_load.proofs.Common.{passes_Q, with_front, piece_end, cumulative_from, checked_cumulative}
use Rattle.nf_load.proofs.RatesInTurn.{RatesSoFar}
use Rattle.nf_load.proofs.amounts.supply_until.Given as goal

-- the points so far, and those from a piece on; the rates so far
abbrev pub invariant-loop-index : goal.invariant-loop-index
invariant-loop-index l = record {
  points : with_front l.supply.points.items (cumulative_from passes_Q l.so_far (drop l.index l.pieces) l.last) ≡ checked_cumulative passes_Q l.pieces l.last;
  rates : RatesSoFar l.supply.points.items l.supply.rates.items l.so_far l.rate (piece_end (drop l.index l.pieces) l.last);
}
