use Rattle.std.proofs.Common.{ℕ, List, map, refl, ap, ◌∙◌, None, replicate}
use Rattle.nf_phase.proofs.Common.{ℚ, passes_Q, first_label_curve, first_curves, starts}
use Rattle.nf_phase.proofs.RunStates.{state_reached}
use Rattle.nf_phase.proofs.run.Run.start.Goals as goal

pub returns-clause-starts : goal.returns-clause-starts
returns-clause-starts c = record {
  time = c.zero.ensures;
  labels = c.in_ok-labels.ensures;
  label_curves = c.in_ok-label_curves.ensures ∙ ap (map first_label_curve) c.deref.ensures.value;
  link_curves = c.in_ok-link_curves.ensures ∙ ap (λ (l : List ℚ). map (first_curves l) c.args.net.now.net.links) c.deref-2.ensures.value;
  made = refl;
  last = c.in_ok-last.ensures ∙ ap (λ (n : ℕ). replicate n None) c.link_count.ensures;
}

pub returns-clause-state : goal.returns-clause-state
returns-clause-state c = state_reached passes_Q c.args.net.now.net c.recall.ensures.network _ (starts (returns-clause-starts c))
