use Rattle.std.proofs.Common.{◌<◌, List, Some, length, refl, ap, sym, subst, ◌∙◌, Ok}
use Rattle.nf_residual.proofs.Common.{AllByRecursion, err_from_is_err_and, ℚ, passes_Q, seen_passed_at, Step, IsResidualWalk, Reach}
use Rattle.nf_residual.proofs.Stopping.{ok_of_part, room_stops, walk_of, room_found}
use Rattle.nf_residual.proofs.Finishing.{steps_within, has_room}
use Rattle.nf_residual.proofs.residual.with_room.Goals as goal

pub returns-in-None : goal.returns-in-None
returns-in-None c = rw c.in-None.is refl

pub room_of-requires : goal.room_of-requires
room_of-requires c = record {
  steps = subst (λ (steps : List Step). AllByRecursion (λ (step : Step). step.link < length c.args.net.now.net.links) steps)
      (sym (c.deref.ensures.value ∙ ap (λ (r : Reach). r.steps) c.way.view_is))
      (steps_within c.args.net.now.net c.args.flows.now c.in-Some.way.steps (c.requires.walk c.in-Some.way c.in-Some.is));
  flows = c.requires.flows;
}

pub returns-in_err-room-in-Some : goal.returns-in_err-room-in-Some
returns-in_err-room-in-Some c =
    let p = err_from_is_err_and c.from_residual.result c.from_residual.ensures.1 in
    rw (p.1, p.2) (room_stops passes_Q c.args.net.now.net c.args.flows.now c.args.way c.in-Some.way c.deref.result.now c.in-Some.is
    (c.deref.ensures.value ∙ ap (λ (r : Reach). r.steps) c.way.view_is) (seen_passed_at (λ (q : ℚ). q) c.in_err-room-in-Some.field-0.0) c.in_err-room-in-Some.ensures)

pub unwrap-requires : goal.unwrap-requires
unwrap-requires c =
    let along = c.deref.ensures.value ∙ ap (λ (r : Reach). r.steps) c.way.view_is in
    has_room passes_Q c.args.net.now.net c.args.flows.now c.deref.result.now c.in_ok-room-in-Some.room c.requires.limited
    (subst (λ (steps : List Step). IsResidualWalk c.args.net.now.net c.args.flows.now steps c.args.net.now.net.source c.args.net.now.net.sink) (sym along)
    (c.requires.walk c.in-Some.way c.in-Some.is))
    (ok_of_part _ c.in_ok-room-in-Some.room (sym c.in_ok-room-in-Some.ensures))

pub returns-in_ok-room-in-Some : goal.returns-in_ok-room-in-Some
returns-in_ok-room-in-Some c =
    ap (λ (r : Reach). Ok (Some (walk_of r c.unwrap.result))) c.way.view_is
    ∙ room_found passes_Q c.args.net.now.net c.args.flows.now c.args.way c.in-Some.way c.deref.result.now c.in-Some.is
    (c.deref.ensures.value ∙ ap (λ (r : Reach). r.steps) c.way.view_is) c.in_ok-room-in-Some.room c.in_ok-room-in-Some.ensures c.unwrap.result c.unwrap.ensures
