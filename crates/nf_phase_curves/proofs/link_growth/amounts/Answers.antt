use Rattle.std.proofs.Common.{◌∙◌, List, refl, ap, map}
use Rattle.nf_phase_curves.proofs.Common.{take_all, slice_get_read, LinkCurves, amount_so_far, Roomy, all_grown}
use Rattle.nf_phase_curves.proofs.OneByOne.{grown_pushed}
use Rattle.nf_phase_curves.proofs.link_growth.amounts.Goals as goal

pub loop-of_link-preserved : goal.loop-of_link-preserved
loop-of_link-preserved c =
    let at = slice_get_read c.args.curves.now _ c.loop-of_link.of_link-index c.of_link-item.result refl c.loop-of_link-test.true c.of_link-item.is in
    grown_pushed amount_so_far c.args.curves.now _ _ c.loop-of_link.of_link-index c.of_link-item.result _ at c.loop-of_link.invariant c.amount.ensures c.in_ok-push.ensures.items

pub returns : goal.returns
returns c =
    c.loop-of_link.invariant ∙ ap (λ (l : List (Roomy LinkCurves)). map amount_so_far (all_grown l))
    (take_all c.loop-of_link.of_link-index c.args.curves.now c.loop-of_link-test.false)
