use Rattle.nf_thin_one.proofs.Alike.{AreAlikeBelow}
use Rattle.nf_thin_one.proofs.comparing.is_one_pattern.Given as goal

-- the links before have the same states
abbrev pub invariant-loop-e : goal.invariant-loop-e
invariant-loop-e l = AreAlikeBelow l.one l.other l.e
