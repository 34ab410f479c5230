use Rattle.nf_phase_length.proofs.Common.{passes_Q, label_after, SoFar}
use Rattle.nf_phase_length.proofs.advancing.labels_after.Given as goal

-- The labels so far precede those of the other nodes.
abbrev pub invariant-loop-v : goal.invariant-loop-v
invariant-loop-v l = SoFar (label_after passes_Q l.length l.slopes) l.labels l.moved.items l.v
