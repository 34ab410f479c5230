use Rattle.std.proofs.Common.{sym, ap, ◌∙◌, Option, Some, Ok, option_map}
use Rattle.nf_check_rules.proofs.Common.{err_from_is_err_and, ℚ, ≤ℚ_of_lt, ≤ℚ_trans, passes_Q, Check, at_part, all_stretches, stretches_from, difference_of}
use Rattle.nf_check_rules.proofs.Common.{Difference, stretches_of, three_after}
use Rattle.nf_check_rules.proofs.Merging.{three-begin, some_next, none_next, fewer_after}
use Rattle.nf_check_rules.proofs.Stretching.{stretch_stops, stretch_found, stretch_goes, no_stretch, next_passes}
use Rattle.nf_check_rules.proofs.stretches.first_detour.Goals as goal

pub loop-time-init : goal.loop-time-init
loop-time-init c = record {
  kept = c.none-kept.ensures c.args.sent.now;
  here = c.first_departure-here.ensures.there;
  left =
      let begun = three-begin c.args.sent.now.taken.points c.args.sent.now.exits.points c.args.sent.now.labels.points c.requires.taken c.requires.exits c.requires.labels in
      ap (λ (t : ℚ). stretches_from passes_Q c.args.sent.now.taken.points c.args.sent.now.exits.points c.args.sent.now.labels.points t
      (three_after t c.args.sent.now.taken.points c.args.sent.now.exits.points c.args.sent.now.labels.points)) c.first_departure-here.ensures.time
      ∙ sym (ap (all_stretches passes_Q c.args.sent.now.taken.points c.args.sent.now.exits.points c.args.sent.now.labels.points) begun);
}

pub places_next-places-requires-clause-curves : goal.places_next-places-requires-clause-curves
places_next-places-requires-clause-curves c = c.requires

pub places_next-places-requires-clause-here : goal.places_next-places-requires-clause-here
places_next-places-requires-clause-here c = c.loop-time.invariant.here

pub places_next-places-requires-clause-next : goal.places_next-places-requires-clause-next
places_next-places-requires-clause-next c = sym c.in-Some.ensures

pub departure_at-requires-clause-time : goal.departure_at-requires-clause-time
departure_at-requires-clause-time c =
    let next = some_next c.args.sent.now c.requires c.loop-time.here.places c.loop-time.here.time c.loop-time.invariant.here.places c.in-Some.time (sym c.in-Some.ensures) in
    ≤ℚ_trans _ _ _ c.loop-time.invariant.here.from_zero (≤ℚ_of_lt _ _ next.later)

pub departure_at-requires-clause-kept : goal.departure_at-requires-clause-kept
departure_at-requires-clause-kept c = c.loop-time.invariant.kept

pub returns-in_err-there : goal.returns-in_err-there
returns-in_err-there c =
    let p = err_from_is_err_and c.from_residual.result c.from_residual.ensures.1 in
    let next = some_next c.args.sent.now c.requires c.loop-time.here.places c.loop-time.here.time c.loop-time.invariant.here.places c.in-Some.time (sym c.in-Some.ensures) in
    rw (p.1, p.2) (sym (stretch_stops passes_Q c.args.sent.now.taken.points c.args.sent.now.exits.points c.args.sent.now.labels.points c.loop-time.here.time
    c.in-Some.time _ _ (stretches_of c.args.sent.now) next.times c.loop-time.invariant.left c.in_err-there.field-0.0
    (next_passes passes_Q c.args.sent.now.taken.points c.args.sent.now.exits.points c.args.sent.now.labels.points c.loop-time.here.time c.in-Some.time
    c.loop-time.here.taken c.loop-time.invariant.here.taken c.in_err-there.field-0.0 (sym c.in_err-there.ensures.taken))))

pub returns-in_err-sides : goal.returns-in_err-sides
returns-in_err-sides c =
    let p = err_from_is_err_and c.from_residual-in_err-sides.result c.from_residual-in_err-sides.ensures.1 in
    let next = some_next c.args.sent.now c.requires c.loop-time.here.places c.loop-time.here.time c.loop-time.invariant.here.places c.in_ok-there.there.time
    (sym c.in-Some.ensures ∙ ap Some (sym c.in_ok-there.ensures.time)) in
    rw (p.1, p.2) (sym (stretch_stops passes_Q c.args.sent.now.taken.points c.args.sent.now.exits.points c.args.sent.now.labels.points c.loop-time.here.time
    c.in_ok-there.there.time _ _ (stretches_of c.args.sent.now) next.times c.loop-time.invariant.left c.in_err-sides.field-0.0
    (sym c.in_err-sides.ensures.list)))

pub returns-in-Some-2 : goal.returns-in-Some-2
returns-in-Some-2 c =
    let next = some_next c.args.sent.now c.requires c.loop-time.here.places c.loop-time.here.time c.loop-time.invariant.here.places c.in_ok-there.there.time
    (sym c.in-Some.ensures ∙ ap Some (sym c.in_ok-there.ensures.time)) in
    sym (stretch_found passes_Q c.args.sent.now.taken.points c.args.sent.now.exits.points c.args.sent.now.labels.points c.loop-time.here.time
    c.in_ok-there.there.time _ _ (stretches_of c.args.sent.now) next.times c.loop-time.invariant.left (difference_of c.in-Some-2.sides)
    (sym c.in_ok-sides.ensures.list ∙ ap (λ (o : Option Difference). Ok (option_map difference_of o)) c.in-Some-2.is))

pub on_stretch-requires-clause-here : goal.on_stretch-requires-clause-here
on_stretch-requires-clause-here c = c.loop-time.invariant.here

pub on_stretch-requires-clause-there : goal.on_stretch-requires-clause-there
on_stretch-requires-clause-there c = c.in_ok-there.ensures.there

pub on_stretch-requires-clause-kept : goal.on_stretch-requires-clause-kept
on_stretch-requires-clause-kept c = c.in_ok-there.ensures.kept

pub loop-time-preserved : goal.loop-time-preserved
loop-time-preserved c =
    let next = some_next c.args.sent.now c.requires c.loop-time.here.places c.loop-time.here.time c.loop-time.invariant.here.places c.in_ok-there.there.time
    (sym c.in-Some.ensures ∙ ap Some (sym c.in_ok-there.ensures.time)) in
    record {
      kept = c.in_ok-sides.ensures.kept;
      here = c.in_ok-sides.ensures.there;
      left =
          ap (λ (t : ℚ). stretches_from passes_Q c.args.sent.now.taken.points c.args.sent.now.exits.points c.args.sent.now.labels.points t
          (three_after t c.args.sent.now.taken.points c.args.sent.now.exits.points c.args.sent.now.labels.points)) c.in_ok-sides.ensures.time
          ∙ stretch_goes passes_Q c.args.sent.now.taken.points c.args.sent.now.exits.points c.args.sent.now.labels.points c.loop-time.here.time
          c.in_ok-there.there.time _ _ (stretches_of c.args.sent.now) next.times c.loop-time.invariant.left
          (sym c.in_ok-sides.ensures.list ∙ ap (λ (o : Option Difference). Ok (option_map difference_of o)) c.in_default-2.is);
    }

pub loop-time-smaller : goal.loop-time-smaller
loop-time-smaller c =
    let next = some_next c.args.sent.now c.requires c.loop-time.here.places c.loop-time.here.time c.loop-time.invariant.here.places c.in_ok-there.there.time
    (sym c.in-Some.ensures ∙ ap Some (sym c.in_ok-there.ensures.time)) in
    rw c.in_ok-sides.ensures.time (fewer_after _ _ c.in_ok-there.there.time next.times)

pub returns : goal.returns
returns c =
    sym (ap (at_part Check) (no_stretch passes_Q c.args.sent.now.taken.points c.args.sent.now.exits.points c.args.sent.now.labels.points
    c.loop-time.here.time _ (stretches_of c.args.sent.now)
    (none_next c.args.sent.now c.requires c.loop-time.here.places c.loop-time.here.time c.loop-time.invariant.here.places (sym c.in_default.ensures)) c.loop-time.invariant.left))
