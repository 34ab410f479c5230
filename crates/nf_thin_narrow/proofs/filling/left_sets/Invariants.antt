use Rattle.std.proofs.Common.{◌≡◌, take}
use Rattle.nf_thin_narrow.proofs.Common.{entrywise, still_active, now_resetting}
use Rattle.nf_thin_narrow.proofs.filling.left_sets.Given as goal

-- The flags so far.
abbrev pub invariant-loop-e : goal.invariant-loop-e
invariant-loop-e l = record {
  active : l.active.items ≡ take l.e (entrywise still_active l.forced l.sets.active);
  resetting : l.resetting.items ≡ take l.e (entrywise now_resetting l.forced l.sets.resetting);
}
