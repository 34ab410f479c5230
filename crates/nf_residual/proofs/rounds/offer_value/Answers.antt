use Rattle.std.proofs.Common.{ℕ, refl, ap, ◌∙◌}
use Rattle.nf_residual.proofs.Common.{err_from_is_err_and, passes_Q, Places, twig_at, place_at, twig_after}
use Rattle.nf_residual.proofs.Twigs.{within_known}
use Rattle.nf_residual.proofs.Offering.{nothing_grows, offer_passes, offer_lost, offer_won, offer_grows}
use Rattle.nf_residual.proofs.Reading.{way_within}
use Rattle.nf_residual.proofs.rounds.offer_value.Goals as goal

pub returns-then-not-is_gain-clause-list : goal.returns-then-not-is_gain-clause-list
returns-then-not-is_gain-clause-list c = offer_lost passes_Q c.args.ways.now c.args.places.now.items c.args.way c.args.leg.now.step c.args.leg.now.transit c.args.leg.now.end
    (twig_at c.args.ways.now c.args.way).distance refl c.in_ok-distance.distance c.in_ok-distance.ensures
    c.is_gain.result c.place_of.result
    (c.place_of.ensures ∙ ap (λ (p : Places). place_at p c.index.result) c.deref.ensures.value ∙ ap (λ (v : ℕ). place_at c.args.places.now.items v) c.index.ensures)
    c.is_gain.ensures
    (within_known c.args.ways.now c.args.places.now.items c.args.leg.now.end c.requires.end) c.if-not-is_gain.true

pub returns-clause-list : goal.returns-clause-list
returns-clause-list c = offer_won passes_Q c.args.ways.now c.args.places.now.items c.args.way c.args.leg.now.step c.args.leg.now.transit c.args.leg.now.end
    (twig_at c.args.ways.now c.args.way).distance refl c.in_ok-distance.distance c.in_ok-distance.ensures
    c.is_gain.result c.place_of.result
    (c.place_of.ensures ∙ ap (λ (p : Places). place_at p c.index.result) c.deref.ensures.value ∙ ap (λ (v : ℕ). place_at c.args.places.now.items v) c.index.ensures)
    c.is_gain.ensures
    c.count-number.ensures.tree c.requires.way c.requires.within c.if-not-is_gain.false
    c.add.new.self c.put.new.places.items c.count-number.result c.count-number.ensures.count
    c.in_ok-add.ensures
    c.put.ensures

pub returns-clause-grows : goal.returns-clause-grows
returns-clause-grows c = offer_grows c.args.ways.now c.args.places.now.items (twig_after c.args.ways.now c.args.way c.args.leg.now.step c.in_ok-distance.distance) c.args.leg.now.end
    c.requires.end
    c.add.new.self c.put.new.places.items c.count-number.result c.count-number.ensures.count
    c.in_ok-add.ensures
    c.put.ensures

pub add-requires : goal.add-requires
add-requires c = c.requires.way

pub put-requires : goal.put-requires
put-requires c = c.requires.end

pub is_gain-requires-clause-known : goal.is_gain-requires-clause-known
is_gain-requires-clause-known c =
    way_within _ c.args.places.now.items c.args.leg.now.end c.place_of.result c.requires.within
    (c.place_of.ensures ∙ ap (λ (p : Places). place_at p c.index.result) c.deref.ensures.value ∙ ap (λ (v : ℕ). place_at c.args.places.now.items v) c.index.ensures)

pub returns-then-not-is_gain-clause-grows : goal.returns-then-not-is_gain-clause-grows
returns-then-not-is_gain-clause-grows c = nothing_grows c.args.ways.now c.args.places.now.items

pub returns-in_err-distance-clause-list : goal.returns-in_err-distance-clause-list
returns-in_err-distance-clause-list c =
    let p = err_from_is_err_and c.from_residual.result c.from_residual.ensures.1 in
    rw (p.1, p.2) (offer_passes passes_Q c.args.ways.now c.args.places.now.items c.args.way c.args.leg.now.step c.args.leg.now.transit c.args.leg.now.end
    (twig_at c.args.ways.now c.args.way).distance refl c.in_err-distance.field-0.0 c.in_err-distance.ensures)
