use Rattle.std.proofs.Common.{◌≢◌, ℕ, ◌<◌}
use Rattle.nf_complete_conditions.proofs.Common.{Takes}
use Rattle.nf_complete_conditions.proofs.taken.each_is_taken.Given as goal

-- the nodes so far take their slopes from links
abbrev pub invariant-loop-v : goal.invariant-loop-v
invariant-loop-v l = (v : ℕ) → v < l.v → v ≢ l.net.net.source → (e : ℕ) × Takes l.net.net l.sets l.flows l.slopes v e
