use Rattle.std.proofs.Common.{Some, None, option_map, refl, sym, ap, ◌∙◌}
use Rattle.nf_residual.proofs.Common.{Reach}
use Rattle.nf_residual.proofs.Reading.{place_there, reach_there}
use Rattle.nf_residual.proofs.reaches.Reaches.distance_to.Goals as goal

pub place_of-requires : goal.place_of-requires
place_of-requires c =
    place_there c.self.inside.ways c.self.inside.places.items c.deref.result.now c.args.self.now c.args.node c.args.node c.self.view_is
    c.deref.ensures.value refl c.requires

pub returns-in-None : goal.returns-in-None
returns-in-None c =
    ap (option_map (λ (reach : Reach). reach.distance)) (reach_there c.self.inside.ways c.self.inside.places.items c.deref.result.now c.args.self.now
    c.args.node c.args.node c.self.view_is c.deref.ensures.value refl None (sym c.in-None.is ∙ c.place_of.ensures))

pub returns-in-Some : goal.returns-in-Some
returns-in-Some c =
    ap Some c.distance.ensures
    ∙ ap (option_map (λ (reach : Reach). reach.distance)) (reach_there c.self.inside.ways c.self.inside.places.items c.deref.result.now c.args.self.now
    c.args.node c.args.node c.self.view_is c.deref.ensures.value refl (Some c.in-Some.way) (sym c.in-Some.is ∙ c.place_of.ensures))
