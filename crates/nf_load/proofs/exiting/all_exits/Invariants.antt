use Rattle.std.proofs.Common.{◌≡◌, drop}
use Rattle.nf_load.proofs.Common.{passes_Q, each, with_front, exit_of}
use Rattle.nf_load.proofs.exiting.all_exits.Given as goal

-- the exits so far, and those of the moments from here on
abbrev pub invariant-loop-moment : goal.invariant-loop-moment
invariant-loop-moment l = with_front l.all.items (each (exit_of passes_Q l.capacity l.transit) (drop l.moment-index l.waits)) ≡ each (exit_of passes_Q l.capacity l.transit) l.waits
