use Rattle.std.proofs.Common.{ℕ, eqb, sym, ap, ◌∙◌}
use Rattle.nf_complete_conditions.proofs.Common.{Link, IsLink-unique, End, node_by}
use Rattle.nf_complete_conditions.proofs.node_sums.is_at.Goals as goal

pub returns-in-Head : goal.returns-in-Head
returns-in-Head c = λ here p.
    c.eq.ensures ∙ ap (λ (k : ℕ). eqb k c.args.node) (ap (λ (l : Link). l.head)
    (c.here.view_is ∙ IsLink-unique c.args.net.now.net c.args.link c.link-here.result here c.link-here.ensures.link p))
    ∙ ap (λ (e : End). eqb (node_by e here) c.args.node) (sym c.in-Head.is)

pub returns-in-Tail : goal.returns-in-Tail
returns-in-Tail c = λ here p.
    c.eq-in-Tail.ensures ∙ ap (λ (k : ℕ). eqb k c.args.node) (ap (λ (l : Link). l.tail)
    (c.here.view_is ∙ IsLink-unique c.args.net.now.net c.args.link c.link-here.result here c.link-here.ensures.link p))
    ∙ ap (λ (e : End). eqb (node_by e here) c.args.node) (sym c.in-Tail.is)
