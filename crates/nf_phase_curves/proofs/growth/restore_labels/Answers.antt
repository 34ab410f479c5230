use Rattle.std.proofs.Common.{◌+◌, ◌≤◌, List, length, map, refl, sym, ap, subst, ◌∙◌, arith}
use Rattle.nf_phase_curves.proofs.Common.{length-map, slice_get_read, err_from_is_err_and, Curve, passes_Q, each, at_part, GrowingCurve, growing, Grown}
use Rattle.nf_phase_curves.proofs.Common.{stops_on, slice_get-image, all_grown}
use Rattle.nf_phase_curves.proofs.Places.{grown_pushed}
use Rattle.nf_phase_curves.proofs.OneByOne.{SoFar, none_yet, one_more, one_passes, all_done}
use Rattle.nf_phase_curves.proofs.growth.restore_labels.Goals as goal

pub loop-curve-init : goal.loop-curve-init
loop-curve-init c =
    subst (λ (l : List GrowingCurve). SoFar (growing passes_Q) (map (λ (g : Grown). g.points) c.args.curves.now) l 0) (sym (ap all_grown c.new-grown.ensures.items))
    (none_yet (growing passes_Q) (map (λ (g : Grown). g.points) c.args.curves.now))

pub returns-in_err-next : goal.returns-in_err-next
returns-in_err-next c =
    let p = err_from_is_err_and c.from_residual.result c.from_residual.ensures.1 in
    let g = slice_get_read c.args.curves.now _ c.loop-curve.curve-index c.curve-item.result refl c.loop-curve-test.true c.curve-item.is in
    let at = slice_get-image (λ (g : Grown). g.points) c.args.curves.now c.loop-curve.curve-index c.curve-item.result g in
    rw (p.1, p.2) (stops_on c.in_err-next.field-0.0 (at_part Curve (growing passes_Q c.curve-item.result.points))
    (at_part Curve (each (growing passes_Q) (map (λ (g : Grown). g.points) c.args.curves.now)))
    (one_passes (growing passes_Q) (map (λ (g : Grown). g.points) c.args.curves.now)
    (all_grown c.loop-curve.grown.items) c.loop-curve.curve-index c.curve-item.result.points at c.loop-curve.invariant) c.in_err-next.ensures)

pub loop-curve-preserved : goal.loop-curve-preserved
loop-curve-preserved c =
    let g = slice_get_read c.args.curves.now _ c.loop-curve.curve-index c.curve-item.result refl c.loop-curve-test.true c.curve-item.is in
    let at = slice_get-image (λ (g : Grown). g.points) c.args.curves.now c.loop-curve.curve-index c.curve-item.result g in
    subst (λ (l : List GrowingCurve). SoFar (growing passes_Q) (map (λ (g : Grown). g.points) c.args.curves.now) l (c.loop-curve.curve-index + 1))
    (sym (ap all_grown c.in_ok-push.ensures.items ∙ grown_pushed c.loop-curve.grown.items c.in_ok-next.next))
    (one_more (growing passes_Q) (map (λ (g : Grown). g.points) c.args.curves.now)
    (all_grown c.loop-curve.grown.items) c.loop-curve.curve-index c.curve-item.result.points at c.loop-curve.invariant
    c.in_ok-next.next.grown c.in_ok-next.ensures)

pub returns : goal.returns
returns c =
    let count : length (map (λ (g : Grown). g.points) c.args.curves.now) ≤ c.loop-curve.curve-index = omega (arith, length-map c.args.curves.now (λ (g : Grown). g.points)) in
    all_done (growing passes_Q) (map (λ (g : Grown). g.points) c.args.curves.now) (all_grown c.loop-curve.grown.items) c.loop-curve.curve-index count c.loop-curve.invariant
