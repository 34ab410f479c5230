use Rattle.std.proofs.Common.{ℕ, List}
use Rattle.nf_pattern.proofs.Common.{Hop, LeadsTo, AreChained}
use Rattle.nf_pattern.proofs.Entries.{IsBack, left_back_to}
use Rattle.nf_pattern.proofs.entered.is_entered_before.Given as goal

-- no later link enters the node
abbrev pub invariant-loop-at : goal.invariant-loop-at
invariant-loop-at l = (hops : List Hop) (head : ℕ) → AreChained hops l.chain → LeadsTo hops l.fn.link head → IsBack hops l.resetting l.states l.fn.link head l.at

abbrev pub decreases-loop-at : goal.decreases-loop-at
decreases-loop-at l = left_back_to l.at
