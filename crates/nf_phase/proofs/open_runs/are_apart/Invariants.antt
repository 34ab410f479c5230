use Rattle.std.proofs.Common.{ℕ, ◌<◌}
use Rattle.nf_phase.proofs.Common.{ApartAt}
use Rattle.nf_phase.proofs.open_runs.are_apart.Given as goal

abbrev pub invariant-loop-e : goal.invariant-loop-e
invariant-loop-e l = (k : ℕ) → k < l.e → ApartAt l.slacks l.last k
