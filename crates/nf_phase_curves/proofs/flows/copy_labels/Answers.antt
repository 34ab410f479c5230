use Rattle.std.proofs.Common.{◌∙◌, List, refl, ap, map}
use Rattle.nf_phase_curves.proofs.Common.{take_all, map-append, slice_get_read, Grown, GrowingCurve, Roomy, all_grown}
use Rattle.nf_phase_curves.proofs.OneByOne.{grown_pushed}
use Rattle.nf_phase_curves.proofs.flows.copy_labels.Goals as goal

pub loop-curve-init : goal.loop-curve-init
loop-curve-init c = ap (map (λ (g : Grown). g.points)) c.new-curves.ensures.items

pub loop-curve-preserved : goal.loop-curve-preserved
loop-curve-preserved c =
    let at = slice_get_read c.args.growing.now _ c.loop-curve.curve-index c.curve-item.result refl c.loop-curve-test.true c.curve-item.is in
    grown_pushed (λ (g : GrowingCurve). g.points) c.args.growing.now _ _ c.loop-curve.curve-index c.curve-item.result _ at c.loop-curve.invariant c.in_ok-copy.ensures
    (ap (map (λ (g : Grown). g.points)) c.in_ok-push.ensures.items ∙ map-append (λ (g : Grown). g.points) c.loop-curve.curves.items _)

pub returns : goal.returns
returns c =
    c.loop-curve.invariant ∙ ap (λ (l : List (Roomy GrowingCurve)). map (λ (g : GrowingCurve). g.points) (all_grown l))
    (take_all c.loop-curve.curve-index c.args.growing.now c.loop-curve-test.false)
