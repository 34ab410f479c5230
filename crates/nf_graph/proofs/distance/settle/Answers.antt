use Rattle.std.proofs.Common.{◌≡◌, ◌<◌, ℕ, List, Option, Some, length, set, sym, subst}
use Rattle.nf_graph.proofs.Common.{length-set, slice_get_within, err_from_is_err_and, ℚ, Hop, IsHop, set_same, HasSum, AreOffers, IsUnsettled, LinksBefore}
use Rattle.nf_graph.proofs.Walks.{hop_at}
use Rattle.nf_graph.proofs.Offering.{offers_settled, offers_next, offers_all, stops_at}
use Rattle.nf_graph.proofs.distance.settle.Goals as goal

-- the node is settled with the sum that was written
settled : (sums : List (Option ℚ)) (i v : ℕ) (sum : ℚ) → i ≡ v → IsUnsettled sums v → HasSum (set sums i (Some sum)) v sum
settled sums i v sum e o = subst (λ (k : ℕ). HasSum (set sums k (Some sum)) v sum) (sym e) (set_same sums v (Some sum) (slice_get_within sums v _ o))

pub loop-e-init : goal.loop-e-init
loop-e-init c =
    subst (λ (i : ℕ). AreOffers c.args.hops.now (set c.args.sums.now i (Some c.args.step.now.sum)) (LinksBefore c.args.step.now.node 0) c.args.offers.now)
    (sym c.index.ensures)
    (offers_settled c.args.hops.now c.args.sums.now c.args.offers.now c.args.step.now.node c.args.step.now.sum c.requires.unsettled c.requires.offers)

pub loop-e-preserved : goal.loop-e-preserved
loop-e-preserved c =
    let sums : List (Option ℚ) = set c.args.sums.now c.index.result (Some c.args.step.now.sum) in
    let here : (hop : Hop) × IsHop c.args.hops.now c.loop-e.e hop = hop_at c.args.hops.now c.loop-e.e c.loop-e-test.true in
    let below : here.0.head < length sums = subst (λ (n : ℕ). here.0.head < n) (sym (length-set c.args.sums.now c.index.result (Some c.args.step.now.sum)))
    (c.requires.ends.heads c.loop-e.e here.0 here.1) in
    offers_next c.args.hops.now sums c.loop-e.e here.0 here.1 c.args.step.now
    (settled c.args.sums.now c.index.result c.args.step.now.node c.args.step.now.sum c.index.ensures c.requires.unsettled)
    c.loop-e.offers c.offer_along.new.offers c.in_ok-offer_along.ensures.offered c.loop-e.invariant (subst (λ (n : ℕ). here.0.head < n) (sym c.loop-e.invariant.count) below)

pub returns-in_err-offer_along-clause-passed : goal.returns-in_err-offer_along-clause-passed
returns-in_err-offer_along-clause-passed c =
    let p = err_from_is_err_and c.from_residual.result c.from_residual.ensures.1 in
    rw (p.1, p.2) (stops_at c.args.hops.now (set c.args.sums.now c.index.result (Some c.args.step.now.sum)) c.args.step.now c.in_err-offer_along.field-0.0
    (settled c.args.sums.now c.index.result c.args.step.now.node c.args.step.now.sum c.index.ensures c.requires.unsettled) c.in_err-offer_along.ensures.passed)

pub returns-clause-offers : goal.returns-clause-offers
returns-clause-offers c =
    offers_all c.args.hops.now (set c.args.sums.now c.index.result (Some c.args.step.now.sum)) c.loop-e.offers c.args.step.now.node c.loop-e.e c.loop-e-test.false c.loop-e.invariant
