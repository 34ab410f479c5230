use Rattle.nf_phase_curves.proofs.Common.{passes_Q, SoFar}
use Rattle.nf_phase_curves.proofs.LinkLoop.{numbered_step}
use Rattle.nf_phase_curves.proofs.phase_view.PhaseView.link_steps.Given as goal

-- The steps so far precede those of the other links.
abbrev pub invariant-loop-e : goal.invariant-loop-e
invariant-loop-e l =
    SoFar (numbered_step passes_Q l.self.sets.now l.self.pattern.now l.self.length l.self.flows.now l.self.slopes.now l.self.labels.now l.amounts)
    l.self.net.now.net.links l.steps.items l.e
