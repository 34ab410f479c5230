use Rattle.nf_quick_walks.proofs.WalkByWalk.{LooksOn}
use Rattle.nf_quick_walks.proofs.walks.first_out.Given as goal

abbrev pub invariant-loop-number : goal.invariant-loop-number
invariant-loop-number l = LooksOn l.net.net.links l.node l.flows l.number
