use Rattle.std.proofs.Common.{◌∙◌, ap, map}
use Rattle.nf_phase_curves.proofs.Common.{map-append, Grown, GrowingCurve}
use Rattle.nf_phase_curves.proofs.OneByOne.{yielded_pushed}
use Rattle.nf_phase_curves.proofs.flows.finish_labels.Goals as goal

pub loop-curve-preserved : goal.loop-curve-preserved
loop-curve-preserved c =
    yielded_pushed (λ (g : GrowingCurve). g.points) c.loop-curve.yielded _ _ c.in-Some.curve _ c.loop-curve.invariant c.in_ok-finish.ensures
    (ap (map (λ (g : Grown). g.points)) c.in_ok-push.ensures.items ∙ map-append (λ (g : Grown). g.points) c.loop-curve.curves.items _)
