use Rattle.std.proofs.Common.{◌≡◌, ◌<◌, length, get_or, refl, sym, ap, ◌∙◌, arith, Some}
use Rattle.nf_phase_curves.proofs.Common.{length-map, slice_get-get_or, slice_get_read, GrowingCurve, label_curves_after, label_after_at}
use Rattle.nf_phase_curves.proofs.Common.{label_after-length, Roomy, all_grown}
use Rattle.nf_phase_curves.proofs.Places.{grown_before, none_grown, one_grown, all_are_grown}
use Rattle.nf_phase_curves.proofs.growth.extend_labels.Goals as goal

pub extend-requires-clause-later : goal.extend-requires-clause-later
extend-requires-clause-later c =
    let inside : c.loop-v.v < length c.loop-v.curves = omega arith in
    c.requires.later c.loop-v.v _
    (grown_before _ c.args.curves.now c.loop-v.curves c.loop-v.v _ (slice_get-get_or c.loop-v.curves c.loop-v.v c.index-curves-v.result inside) c.loop-v.invariant)

pub extend-requires-clause-room : goal.extend-requires-clause-room
extend-requires-clause-room c =
    let inside : c.loop-v.v < length c.loop-v.curves = omega arith in
    c.requires.room c.loop-v.v _ (sym (c.loop-v.invariant.rest c.loop-v.v (omega arith)) ∙ slice_get-get_or c.loop-v.curves c.loop-v.v c.index-curves-v.result inside)

pub loop-v-init : goal.loop-v-init
loop-v-init c = none_grown (label_curves_after c.args.time c.args.labels.now c.args.slopes.now (all_grown c.args.curves.now)) c.args.curves.now

pub loop-v-preserved : goal.loop-v-preserved
loop-v-preserved c =
    let inside : c.loop-v.v < length c.loop-v.curves = omega arith in
    one_grown (label_curves_after c.args.time c.args.labels.now c.args.slopes.now (all_grown c.args.curves.now)) c.args.curves.now c.loop-v.curves c.loop-v.v c.extend.new.self inside
    (label_after_at c.args.time c.args.labels.now c.args.slopes.now (all_grown c.args.curves.now) c.loop-v.v c.index-labels-v.result c.index-slopes-v.result
    (get_or c.loop-v.curves c.loop-v.v c.index-curves-v.result).grown
    (slice_get_read c.args.labels.now (length c.args.labels.now) c.loop-v.v c.index-labels-v.result refl (omega arith) c.index-labels-v.is)
    (slice_get_read c.args.slopes.now (length c.args.slopes.now) c.loop-v.v c.index-slopes-v.result refl (omega arith) c.index-slopes-v.is)
    (grown_before _ c.args.curves.now c.loop-v.curves c.loop-v.v _ (slice_get-get_or c.loop-v.curves c.loop-v.v c.index-curves-v.result inside) c.loop-v.invariant)
    ∙ ap (λ (g : GrowingCurve). Some g) (sym c.extend.ensures))
    c.loop-v.invariant

pub returns : goal.returns
returns c =
    let before : length (all_grown c.args.curves.now) ≡ length c.args.curves.now = length-map c.args.curves.now (λ (r : Roomy GrowingCurve). r.grown) in
    all_are_grown (label_curves_after c.args.time c.args.labels.now c.args.slopes.now (all_grown c.args.curves.now)) c.args.curves.now c.loop-v.curves c.loop-v.v
    (label_after-length c.args.time c.args.labels.now c.args.slopes.now (all_grown c.args.curves.now) (length c.loop-v.curves) (omega arith) (omega arith) (omega arith))
    (omega arith) c.loop-v.invariant
