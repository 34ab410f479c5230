use Rattle.nf_phase_curves.proofs.Common.{link_curves_after, all_grown}
use Rattle.nf_phase_curves.proofs.Places.{GrownBelow}
use Rattle.nf_phase_curves.proofs.link_growth.extend_links.Given as goal

abbrev pub invariant-loop-e : goal.invariant-loop-e
invariant-loop-e l = GrownBelow (link_curves_after l.labels l.net.net.links (all_grown l.fn.curves) l.steps) l.fn.curves l.curves l.e
