use Rattle.std.proofs.Common.{ℕ, ◌++◌, ◌∷◌, [], refl, ap, ◌∙◌}
use Rattle.nf_residual.proofs.Common.{ℚ, whole, passes_Q, Places, twig_at, place_at, twig_after}
use mir.Syntax.{w64}
use mir.Val.{to_z, of_z}
use Rattle.nf_residual.proofs.WholeLengths.{kept_exact}
use Rattle.nf_residual.proofs.Twigs.{within_known}
use Rattle.nf_residual.proofs.Offering.{offer_lost, offer_won, offer_grows}
use Rattle.nf_residual.proofs.rounds.offer.Goals as goal

pub returns-then-not-is_whole_gain-clause-list : goal.returns-then-not-is_whole_gain-clause-list
returns-then-not-is_whole_gain-clause-list c =
    offer_lost passes_Q c.args.ways.now c.args.places.now.items c.args.way c.args.leg.now.step c.args.leg.now.transit c.args.leg.now.end
    (twig_at c.args.ways.now c.args.way).distance refl (whole (to_z w64 (of_z w64 c.in-Some.whole)))
    (kept_exact c.args.leg.now.step.forward (twig_at c.args.ways.now c.args.way).distance c.args.leg.now.transit c.in-Some.whole c.in-Some.ensures)
    c.is_whole_gain.result c.place_of.result
    (c.place_of.ensures ∙ ap (λ (p : Places). place_at p c.index.result) c.deref.ensures.value ∙ ap (λ (v : ℕ). place_at c.args.places.now.items v) c.index.ensures)
    c.is_whole_gain.ensures
    (within_known c.args.ways.now c.args.places.now.items c.args.leg.now.end c.requires.end) c.if-not-is_whole_gain.true

pub returns-clause-list : goal.returns-clause-list
returns-clause-list c =
    offer_won passes_Q c.args.ways.now c.args.places.now.items c.args.way c.args.leg.now.step c.args.leg.now.transit c.args.leg.now.end
    (twig_at c.args.ways.now c.args.way).distance refl (whole (to_z w64 (of_z w64 c.in-Some.whole)))
    (kept_exact c.args.leg.now.step.forward (twig_at c.args.ways.now c.args.way).distance c.args.leg.now.transit c.in-Some.whole c.in-Some.ensures)
    c.is_whole_gain.result c.place_of.result
    (c.place_of.ensures ∙ ap (λ (p : Places). place_at p c.index.result) c.deref.ensures.value ∙ ap (λ (v : ℕ). place_at c.args.places.now.items v) c.index.ensures)
    c.is_whole_gain.ensures
    c.count-number.ensures.tree c.requires.way c.requires.within c.if-not-is_whole_gain.false
    c.add.new.self c.put.new.places.items c.count-number.result c.count-number.ensures.count
    (c.in_ok-add.ensures {u = tt} ∙ ap (λ (q : ℚ). c.args.ways.now ++ twig_after c.args.ways.now c.args.way c.args.leg.now.step q ∷ []) c.of_whole.ensures)
    c.put.ensures

pub returns-clause-grows : goal.returns-clause-grows
returns-clause-grows c = offer_grows c.args.ways.now c.args.places.now.items (twig_after c.args.ways.now c.args.way c.args.leg.now.step c.of_whole.result) c.args.leg.now.end
    c.requires.end
    c.add.new.self c.put.new.places.items c.count-number.result c.count-number.ensures.count
    (c.in_ok-add.ensures {u = tt})
    c.put.ensures
