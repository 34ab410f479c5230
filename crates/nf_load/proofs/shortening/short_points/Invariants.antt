use Rattle.std.proofs.Common.{◌≡◌, drop}
use Rattle.nf_load.proofs.Common.{passes_Q, with_front, checked_short, short_from}
use Rattle.nf_load.proofs.shortening.short_points.Given as goal

-- the points so far, and those from this one on
abbrev pub invariant-loop-i : goal.invariant-loop-i
invariant-loop-i l = with_front l.short.items (short_from passes_Q l.before (drop l.i l.points)) ≡ checked_short passes_Q l.points
