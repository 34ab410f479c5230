use Rattle.std.proofs.Common.{◌≡◌, ℕ, List, Some, sym, ap, ◌∙◌}
use Rattle.nf_residual.proofs.Common.{err_from_is_err_and, ℚ, Step, Twig, twig_at, way_at, Places, place_at}
use Rattle.nf_residual.proofs.Reading.{place_there, reach_there}
use Rattle.nf_residual.proofs.reaches.Reaches.way_to.Goals as goal

-- its parts are read one after the other
way_read : (tree : List Twig) (way : ℕ) (distance : ℚ) (steps : List Step) → distance ≡ (twig_at tree way).distance → steps ≡ (way_at tree way).steps
    → record { distance = distance; steps = steps } ≡ way_at tree way
way_read tree way distance steps d s =
    ap (λ (q : ℚ). record { distance = q; steps = steps }) d ∙ ap (λ (l : List Step). record { distance = (twig_at tree way).distance; steps = l }) s

pub place_of-requires : goal.place_of-requires
place_of-requires c =
    place_there c.self.inside.ways c.self.inside.places.items c.deref.result.now c.args.self.now c.args.node c.index.result c.self.view_is
    c.deref.ensures.value c.index.ensures c.requires

pub steps-requires : goal.steps-requires
steps-requires c = c.self.invariant c.index.result c.in-Some.way (ap (λ (p : Places). place_at p c.index.result) (sym c.deref.ensures.value) ∙ sym c.place_of.ensures ∙ c.in-Some.is)

pub distance-requires : goal.distance-requires
distance-requires c = c.self.invariant c.index.result c.in-Some.way (ap (λ (p : Places). place_at p c.index.result) (sym c.deref.ensures.value) ∙ sym c.place_of.ensures ∙ c.in-Some.is)

pub returns-in_err-steps-in-Some : goal.returns-in_err-steps-in-Some
returns-in_err-steps-in-Some c =
    let p = err_from_is_err_and c.from_residual.result c.from_residual.ensures.1 in
    rw p.1 tt

pub returns-in-None : goal.returns-in-None
returns-in-None c =
    reach_there c.self.inside.ways c.self.inside.places.items c.deref.result.now c.args.self.now c.args.node c.index.result c.self.view_is
    c.deref.ensures.value c.index.ensures _
    (sym c.in-None.is ∙ c.place_of.ensures)

pub returns-in_ok-steps-in-Some : goal.returns-in_ok-steps-in-Some
returns-in_ok-steps-in-Some c =
    ap Some (way_read c.self.inside.ways c.in-Some.way c.distance.result c.in_ok-steps-in-Some.steps.items c.distance.ensures c.in_ok-steps-in-Some.ensures)
    ∙ reach_there c.self.inside.ways c.self.inside.places.items c.deref.result.now c.args.self.now c.args.node c.index.result c.self.view_is
    c.deref.ensures.value c.index.ensures (Some c.in-Some.way)
    (sym c.in-Some.is ∙ c.place_of.ensures)
