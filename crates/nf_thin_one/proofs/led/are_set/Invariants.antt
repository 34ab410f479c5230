use Rattle.std.proofs.Common.{ℕ, ◌<◌}
use Rattle.nf_thin_one.proofs.Common.{Has}
use Rattle.nf_thin_one.proofs.led.are_set.Given as goal

-- the flags so far are set
abbrev pub invariant-loop-v : goal.invariant-loop-v
invariant-loop-v l = (v : ℕ) → v < l.v → Has l.flags v
