use Rattle.nf_complete_conditions.proofs.Common.{enumerate_from, passes_Q, full_at, KeepsAt}
use Rattle.nf_complete_conditions.proofs.Telling.{ToldBelow}
use Rattle.nf_complete_conditions.proofs.slopes.keep_slopes.Given as goal

-- the answer for the links so far
abbrev pub invariant-loop-e : goal.invariant-loop-e
invariant-loop-e l = ToldBelow (full_at passes_Q l.sets l.slopes) (λ p. KeepsAt l.sets l.flows l.slopes p.0 p.1) (enumerate_from 0 l.net.net.links) l.e l.all
