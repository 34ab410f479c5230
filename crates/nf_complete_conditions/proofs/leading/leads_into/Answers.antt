use Rattle.std.proofs.Common.{ℕ, Bool, Some, eqb, ap, ◌∙◌}
use Rattle.nf_complete_conditions.proofs.Common.{Link}
use Rattle.nf_complete_conditions.proofs.LinkAnswers.{leads_told}
use Rattle.nf_complete_conditions.proofs.leading.leads_into.Goals as goal

pub returns : goal.returns
returns c = leads_told c.args.net.now.net c.args.sets.now c.args.node c.args.link c.link-here.result c.eq.result c.link-here.ensures.link
    (c.active.ensures.flag ∙ ap (λ (b : Bool). Some b) c.if-not-active.false) (c.eq.ensures ∙ ap (λ (k : ℕ). eqb k c.args.node) (ap (λ (l : Link). l.head) c.here.view_is))
