use Rattle.std.proofs.Common.{ℕ, ◌<◌}
use Rattle.nf_complete_conditions.proofs.Common.{0ℚ, ◌≤ℚ◌, number_at}
use Rattle.nf_complete_conditions.proofs.proper.none_negative.Given as goal

abbrev pub invariant-loop-i : goal.invariant-loop-i
invariant-loop-i l = (k : ℕ) → k < l.i → 0ℚ ≤ℚ number_at l.numbers k
