use Rattle.nf_thin_guess.proofs.Common.{IsPatternIn}
use Rattle.nf_thin_guess.proofs.repairs.Repairs.loosen.Given as goal

-- The pattern is still a pattern.
abbrev pub invariant-loop-e : goal.invariant-loop-e
invariant-loop-e l = IsPatternIn l.self.net.now.net l.self.sets.now l.pattern
