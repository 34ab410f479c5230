use Rattle.std.proofs.Common.{◌≡◌, ◌+◌, length}
use Rattle.nf_load.proofs.Common.{AreLeaving}
use Rattle.nf_load.proofs.leaving.all_leaving.Given as goal

-- the slopes so far are those of the first moments
abbrev pub invariant-loop-i : goal.invariant-loop-i
invariant-loop-i l = record {
  count : length l.leaving.items + 1 ≡ l.i;
  leaving : AreLeaving l.all l.leaving.items;
}
