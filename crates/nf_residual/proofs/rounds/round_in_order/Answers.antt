use Rattle.std.proofs.Common.{ℕ, ◌<◌, ◌≤◌, length, sym, subst, arith}
use Rattle.nf_residual.proofs.Common.{err_from_is_err_and, passes_Q}
use Rattle.nf_residual.proofs.Rounding.{round_first, leg_ends, count_is, way_within, within_grown, offer_stops, offer_more, old_more, round_all, settled_all}
use Rattle.nf_residual.proofs.rounds.round_in_order.Goals.{in-Some+in_ok-offer, in_default}
use Rattle.nf_residual.proofs.rounds.round_in_order.Goals as goal

pub loop-leg-init : goal.loop-leg-init
loop-leg-init c = round_first passes_Q c.args.legs.now c.args.fresh c.args.ways.now c.args.before.now c.args.places.now.items c.requires.same c.requires.settled

pub fresh_way-requires : goal.fresh_way-requires
fresh_way-requires c = (leg_ends passes_Q c.args.legs.now c.args.fresh c.args.ways.now c.args.before.now c.loop-leg.ways c.loop-leg.places.items c.loop-leg.leg-index c.loop-leg.invariant
    c.leg-item.result c.loop-leg-test.true c.leg-item.is c.requires.legs).0

pub offer-requires-clause-way : goal.offer-requires-clause-way
offer-requires-clause-way c =
    way_within passes_Q c.args.legs.now c.args.fresh c.args.ways.now c.args.before.now c.loop-leg.ways c.loop-leg.places.items c.loop-leg.leg-index
    c.loop-leg.invariant
    c.leg-item.result c.loop-leg-test.true c.leg-item.is c.requires.tree c.requires.within c.in-Some.way c.in-Some.ensures.way

pub offer-requires-clause-end : goal.offer-requires-clause-end
offer-requires-clause-end c =
    subst (λ (n : ℕ). c.leg-item.result.end < n) (sym (count_is passes_Q c.args.legs.now c.args.fresh c.args.ways.now c.args.before.now c.loop-leg.ways
    c.loop-leg.places.items c.loop-leg.leg-index c.loop-leg.invariant))
    (leg_ends passes_Q c.args.legs.now c.args.fresh c.args.ways.now c.args.before.now c.loop-leg.ways c.loop-leg.places.items c.loop-leg.leg-index c.loop-leg.invariant
    c.leg-item.result c.loop-leg-test.true c.leg-item.is c.requires.legs).1

pub offer-requires-clause-within : goal.offer-requires-clause-within
offer-requires-clause-within c = within_grown c.args.ways.now c.loop-leg.ways c.args.before.now c.loop-leg.places.items c.loop-leg.invariant.grows c.requires.within

pub returns-in_err-offer-clause-list : goal.returns-in_err-offer-clause-list
returns-in_err-offer-clause-list c =
    let p = err_from_is_err_and c.from_residual.result c.from_residual.ensures.1 in
    rw (p.1, p.2) (offer_stops passes_Q c.args.legs.now c.args.fresh c.args.ways.now c.args.before.now c.loop-leg.ways c.loop-leg.places.items c.loop-leg.leg-index c.loop-leg.invariant
    c.leg-item.result c.loop-leg-test.true c.leg-item.is c.requires.tree c.requires.within c.in-Some.way c.in-Some.ensures.way c.in_err-offer.field-0.0 c.in_err-offer.ensures.list)

pub loop-leg-preserved : goal.loop-leg-preserved
loop-leg-preserved c = elim c.match-fresh_way.branch [
  | in-Some+in_ok-offer w ↦ rw (w.ways-is, w.places-is) (offer_more passes_Q c.args.legs.now c.args.fresh c.args.ways.now c.args.before.now c.loop-leg.ways
      c.loop-leg.places.items c.loop-leg.leg-index c.loop-leg.invariant
      c.leg-item.result c.loop-leg-test.true c.leg-item.is c.requires.tree c.requires.within w.in-Some.way w.in-Some.ensures.way c.requires.legs
      w.offer.new.ways w.offer.new.places.items w.in_ok-offer.ensures.list w.in_ok-offer.ensures.grows)
  | in_default w ↦ rw (w.ways-is, w.places-is) (old_more passes_Q c.args.legs.now c.args.fresh c.args.ways.now c.args.before.now c.loop-leg.ways
      c.loop-leg.places.items c.loop-leg.leg-index c.loop-leg.invariant
      c.leg-item.result c.loop-leg-test.true c.leg-item.is c.requires.tree c.requires.within c.requires.legs (c.fresh_way.ensures.old w.in_default.is))
]

pub returns-clause-list : goal.returns-clause-list
returns-clause-list c =
    let past : length c.args.legs.now ≤ c.loop-leg.leg-index = omega arith in
    round_all passes_Q c.args.legs.now c.args.fresh c.args.ways.now c.args.before.now c.loop-leg.ways c.loop-leg.places.items c.loop-leg.leg-index c.loop-leg.invariant past

pub returns-clause-grows : goal.returns-clause-grows
returns-clause-grows c = c.loop-leg.invariant.grows

pub returns-clause-settled : goal.returns-clause-settled
returns-clause-settled c =
    let past : length c.args.legs.now ≤ c.loop-leg.leg-index = omega arith in
    settled_all passes_Q c.args.legs.now c.args.fresh c.args.ways.now c.args.before.now c.loop-leg.ways c.loop-leg.places.items c.loop-leg.leg-index
    c.loop-leg.invariant past c.requires.tree
