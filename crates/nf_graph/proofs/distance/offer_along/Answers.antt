use Rattle.std.proofs.Common.{◌∙◌}
use Rattle.nf_graph.proofs.Common.{err_from_is_err_and, Hop, IsHop}
use Rattle.nf_graph.proofs.Walks.{same_from_test, apart_from_test}
use Rattle.nf_graph.proofs.Offering.{IsHop-read_at, passes_from, offered_along, offered_past}
use Rattle.nf_graph.proofs.distance.offer_along.Goals as goal
use Rattle.nf_graph.proofs.distance.offer_along.Goals.{then-eq+in_ok-sum, else-eq}

pub returns-in_err-sum-clause-passed : goal.returns-in_err-sum-clause-passed
returns-in_err-sum-clause-passed c =
    let seen : Hop = record { tail = c.hop.inside.tail; head = c.hop.inside.head; transit = c.hop.inside.transit } in
    let here : IsHop c.args.hops.now c.args.link seen = IsHop-read_at c.args.hops.now c.index.result c.args.link c.index-hops-index.result seen
    c.requires.link c.index.ensures c.index-hops-index.is c.hop.view_is in
    let p = err_from_is_err_and c.from_residual.result c.from_residual.ensures.1 in
    rw (p.1, p.2) (passes_from c.args.hops.now c.args.step.now c.args.link seen c.in_err-sum.field-0.0 here (same_from_test _ _ c.if-eq.ensures) c.in_err-sum.ensures.passed)

pub offer-requires : goal.offer-requires
offer-requires c =
    let seen : Hop = record { tail = c.hop.inside.tail; head = c.hop.inside.head; transit = c.hop.inside.transit } in
    c.requires.ends.heads c.args.link seen (IsHop-read_at c.args.hops.now c.index.result c.args.link c.index-hops-index.result seen c.requires.link
    c.index.ensures c.index-hops-index.is c.hop.view_is)

pub returns-clause-offered : goal.returns-clause-offered
returns-clause-offered c =
    let seen : Hop = record { tail = c.hop.inside.tail; head = c.hop.inside.head; transit = c.hop.inside.transit } in
    let here : IsHop c.args.hops.now c.args.link seen = IsHop-read_at c.args.hops.now c.index.result c.args.link c.index-hops-index.result seen
    c.requires.link c.index.ensures c.index-hops-index.is c.hop.view_is in
    elim c.if-eq.branch [
      | then-eq+in_ok-sum w ↦ offered_along c.args.hops.now c.args.step.now c.args.link seen w.in_ok-sum.sum c.args.offers.now c.if-eq.offers here (same_from_test _ _ w.if-eq.ensures)
          (w.in_ok-sum.ensures.sum seen here) (λ known k. w.offers-is ∙ w.offer.ensures known k)
      | else-eq w ↦ offered_past c.args.hops.now c.args.step.now c.args.link seen c.args.offers.now c.if-eq.offers here (apart_from_test _ _ w.if-eq.ensures) w.offers-is
    ]
