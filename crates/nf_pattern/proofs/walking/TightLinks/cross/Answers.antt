use Rattle.std.proofs.Common.{eqb, sym, ap, ◌∙◌}
use Rattle.nf_pattern.proofs.Common.{Hop, IsHop}
use Rattle.nf_pattern.proofs.Entries.{hop_there}
use Rattle.nf_pattern.proofs.Crossing.{to_head, to_tail, on_at_head, on_at_tail}
use Rattle.nf_pattern.proofs.walking.TightLinks.cross.Goals as goal

pub returns-then-eq-clause-node : goal.returns-then-eq-clause-node
returns-then-eq-clause-node c =
    let here : IsHop c.args.hops.now c.args.link c.index-hops-index.result =
    hop_there c.args.hops.now c.args.link c.index.result c.index-hops-index.result c.requires.link c.index.ensures c.index-hops-index.is in
    ap (λ (h : Hop). h.head) c.hop.view_is ∙ sym (to_head c.args.hops.now c.args.link c.args.node c.index-hops-index.result here
    (ap (λ (h : Hop). eqb h.tail c.args.node) (sym c.hop.view_is) ∙ (sym c.eq.ensures ∙ c.if-eq.true)))

pub returns-else-eq-clause-node : goal.returns-else-eq-clause-node
returns-else-eq-clause-node c =
    let here : IsHop c.args.hops.now c.args.link c.index-hops-index.result =
    hop_there c.args.hops.now c.args.link c.index.result c.index-hops-index.result c.requires.link c.index.ensures c.index-hops-index.is in
    ap (λ (h : Hop). h.tail) c.hop.view_is ∙ sym (to_tail c.args.hops.now c.args.link c.args.node c.index-hops-index.result here
    (ap (λ (h : Hop). eqb h.tail c.args.node) (sym c.hop.view_is) ∙ (sym c.eq.ensures ∙ c.if-eq.false)))

pub returns-then-eq-clause-link : goal.returns-then-eq-clause-link
returns-then-eq-clause-link c = λ states depth holds before tight.
    let here : IsHop c.args.hops.now c.args.link c.index-hops-index.result =
    hop_there c.args.hops.now c.args.link c.index.result c.index-hops-index.result c.requires.link c.index.ensures c.index-hops-index.is in
    on_at_head c.args.hops.now c.args.link c.args.node c.index-hops-index.result here states depth c.index-then-eq.result c.index-then-eq-2.result.now
    holds before tight c.requires.link c.index-then-eq.ensures c.index-then-eq-2.ensures
    (ap (λ (h : Hop). eqb h.tail c.args.node) (sym c.hop.view_is) ∙ (sym c.eq.ensures ∙ c.if-eq.true))

pub returns-else-eq-clause-link : goal.returns-else-eq-clause-link
returns-else-eq-clause-link c = λ states depth holds before tight.
    let here : IsHop c.args.hops.now c.args.link c.index-hops-index.result =
    hop_there c.args.hops.now c.args.link c.index.result c.index-hops-index.result c.requires.link c.index.ensures c.index-hops-index.is in
    on_at_tail c.args.hops.now c.args.link c.args.node c.index-hops-index.result here states depth c.index-else-eq.result c.index-else-eq-2.result.now
    holds before tight c.requires.link c.index-else-eq.ensures c.index-else-eq-2.ensures
    (ap (λ (h : Hop). eqb h.tail c.args.node) (sym c.hop.view_is) ∙ (sym c.eq.ensures ∙ c.if-eq.false))
