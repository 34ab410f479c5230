use Rattle.std.proofs.Common.{map}
use Rattle.nf_phase_curves.proofs.Common.{passes_Q, seen_trace, all_grown}
use Rattle.nf_phase_curves.proofs.OneByOne.{LinksSoFar}
use Rattle.nf_phase_curves.proofs.link_growth.restore_links.Given as goal

abbrev pub invariant-loop-e : goal.invariant-loop-e
invariant-loop-e l = LinksSoFar passes_Q (map seen_trace l.inflows) (map seen_trace l.outflows) (map (λ c. c.points) l.queues) (all_grown l.curves.items) l.e
