use Rattle.std.proofs.Common.{◌≡◌, length}
use Rattle.nf_check_rules.proofs.Common.{passes_Q, stretches_from, IsSentDeparture, KeepSlopes, stretches_of, three_after}
use Rattle.nf_check_rules.proofs.stretches.first_detour.Given as goal

abbrev pub invariant-loop-time : goal.invariant-loop-time
invariant-loop-time l = record {
  kept : KeepSlopes l.sent l.kept;
  here : IsSentDeparture l.sent l.here;
  left : stretches_from passes_Q l.sent.taken.points l.sent.exits.points l.sent.labels.points l.here.time
      (three_after l.here.time l.sent.taken.points l.sent.exits.points l.sent.labels.points) ≡ stretches_of l.sent;
}

abbrev pub decreases-loop-time : goal.decreases-loop-time
decreases-loop-time l = length (three_after l.here.time l.sent.taken.points l.sent.exits.points l.sent.labels.points)
