use Rattle.std.proofs.Common.{ℕ, ◌<◌, sym, subst, ◌∙◌}
use Rattle.nf_phase_curves.proofs.Common.{Curve, passes_Q, at_part, link_step}
use Rattle.nf_phase_curves.proofs.AtLabels.{number_read}
use Rattle.nf_phase_curves.proofs.phase_view.PhaseView.step_of.Goals as goal

pub returns : goal.returns
returns c = λ here is.
    let inside = subst (λ (n : ℕ). c.args.link < n) (sym c.requires.amounts) c.requires.link in
    let amount = number_read c.args.amounts.now c.args.link c.index.result c.index-amounts-index.result c.index.ensures inside c.index-amounts-index.is in
    c.link_step.ensures ∙ (λ i. at_part Curve (link_step passes_Q c.args.self.now.length (sym amount i) (c.link-here.ensures here is i)))
