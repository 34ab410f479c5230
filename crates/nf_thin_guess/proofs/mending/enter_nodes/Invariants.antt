use Rattle.nf_thin_guess.proofs.Common.{Sets, IsPatternIn}
use Rattle.nf_thin_guess.proofs.mending.enter_nodes.Given as goal

-- The pattern is still one of each of its sets.
abbrev pub invariant-loop-e : goal.invariant-loop-e
invariant-loop-e l = (sets : Sets) → IsPatternIn l.net.net sets l.fn.pattern → IsPatternIn l.net.net sets l.pattern
