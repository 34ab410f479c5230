use Rattle.std.proofs.Common.{◌≡◌, drop}
use Rattle.nf_load.proofs.Common.{passes_Q, with_front, waits_after, all_waits, IsPaceIf}
use Rattle.nf_load.proofs.Alongs.{Linked}
use Rattle.nf_load.proofs.QueueSteps.{Later, IsBefore}
use Rattle.nf_load.proofs.waiting.all_waits.Given as goal

-- what waits so far, and over the pieces from here on; the last moment so far is the point before this one
abbrev pub invariant-loop-i : goal.invariant-loop-i
invariant-loop-i l = record {
  moments : with_front l.moments.waits.items (waits_after passes_Q l.capacity l.last (drop l.i l.inflow.points)) ≡ all_waits passes_Q l.capacity l.inflow.points;
  later : Later l.last (drop l.i l.inflow.points);
  paces : Linked (IsPaceIf l.capacity) l.moments.waits.items l.moments.paces.items l.last;
  before : IsBefore l.inflow.points l.last l.i;
}
