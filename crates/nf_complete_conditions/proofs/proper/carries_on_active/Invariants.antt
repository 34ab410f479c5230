use Rattle.std.proofs.Common.{ℕ, ◌<◌}
use Rattle.nf_complete_conditions.proofs.Common.{CarriesIfActive}
use Rattle.nf_complete_conditions.proofs.proper.carries_on_active.Given as goal

abbrev pub invariant-loop-e : goal.invariant-loop-e
invariant-loop-e l = (k : ℕ) → k < l.e → CarriesIfActive l.sets l.flows k
