use Rattle.nf_thin_narrow.proofs.Entries.{AreFilled}
use Rattle.nf_thin_narrow.proofs.within.first_other.Given as goal

-- the links before have the same states
abbrev pub invariant-loop-e : goal.invariant-loop-e
invariant-loop-e l = AreFilled l.other l.one l.e
