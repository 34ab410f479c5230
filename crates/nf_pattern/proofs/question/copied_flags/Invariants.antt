use Rattle.std.proofs.Common.{◌≡◌, take}
use Rattle.nf_pattern.proofs.question.copied_flags.Given as goal

-- the flags so far
abbrev pub invariant-loop-e : goal.invariant-loop-e
invariant-loop-e l = record { active : l.active.items ≡ take l.e l.sets.active; resetting : l.resetting.items ≡ take l.e l.sets.resetting }
