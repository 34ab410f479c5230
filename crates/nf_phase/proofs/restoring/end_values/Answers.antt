use Rattle.std.proofs.Common.{map, refl, ap, ◌∙◌}
use Rattle.nf_phase.proofs.Common.{take_all, slice_get_read, value_at_end, Grown}
use Rattle.nf_phase_curves.proofs.Corners.{value_at_last}
use Rattle.nf_phase_curves.proofs.OneByOne.{mapped_pushed}
use Rattle.nf_phase.proofs.restoring.end_values.Goals as goal

pub loop-curve-preserved : goal.loop-curve-preserved
loop-curve-preserved c =
    let g = slice_get_read c.args.curves.now _ c.loop-curve.curve-index c.curve-item.result refl c.loop-curve-test.true c.curve-item.is in
    mapped_pushed (λ (g : Grown). value_at_end g.points) c.args.curves.now c.loop-curve.values.items c.push.new.self.items c.loop-curve.curve-index
    c.curve-item.result c.last-value.result.1 g c.loop-curve.invariant
    (value_at_last c.curve-item.result.points c.last-value.result c.last-value.ensures) c.in_ok-push.ensures.items

pub returns : goal.returns
returns c = c.loop-curve.invariant ∙ ap (map (λ (g : Grown). value_at_end g.points)) (take_all c.loop-curve.curve-index c.args.curves.now c.loop-curve-test.false)
