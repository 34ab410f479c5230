use Rattle.std.proofs.Common.{Bool, ap, ◌∙◌, Option, Some}
use Rattle.nf_thin_guess.proofs.Common.{State}
use Rattle.nf_thin_guess.proofs.Capacities.{full_bounded, stateless_bounded}
use Rattle.nf_thin_guess.proofs.node_parts.state_in.Goals as goal

pub returns-in-Some : goal.returns-in-Some
returns-in-Some c = λ full net here is at.
    full_bounded net c.args.sets.now c.args.pattern.now is c.args.link here at (c.state.ensures ∙ ap (λ (s : Option State). Some s) (c.in-Some.is ∙ full))

pub returns-in-None : goal.returns-in-None
returns-in-None c = λ full net here is at.
    stateless_bounded net c.args.sets.now c.args.pattern.now is c.args.link here at (c.active.ensures.flag ∙ ap (λ (b : Bool). Some b) c.if-not-active.false)
    (c.state.ensures ∙ ap (λ (s : Option State). Some s) c.in-None.is)
