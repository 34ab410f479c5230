use Rattle.std.proofs.Common.{◌∙◌, refl, ap, map}
use Rattle.nf_phase_curves.proofs.Common.{take_all, slice_get_read, first_label_curve, all_grown}
use Rattle.nf_phase_curves.proofs.OneByOne.{mapped_pushed}
use Rattle.nf_phase_curves.proofs.Places.{grown_pushed}
use Rattle.nf_phase_curves.proofs.growth.first_labels.Goals as goal

pub loop-label-preserved : goal.loop-label-preserved
loop-label-preserved c =
    let at = slice_get_read c.args.labels.now _ c.loop-label.label-index c.label-item.result refl c.loop-label-test.true c.label-item.is in
    mapped_pushed first_label_curve c.args.labels.now _ _ c.loop-label.label-index c.label-item.result _ at c.loop-label.invariant c.in_ok-start.ensures
    (ap all_grown c.in_ok-push.ensures.items ∙ grown_pushed c.loop-label.curves.items _)

pub returns : goal.returns
returns c = c.loop-label.invariant ∙ ap (map first_label_curve) (take_all c.loop-label.label-index c.args.labels.now c.loop-label-test.false)
