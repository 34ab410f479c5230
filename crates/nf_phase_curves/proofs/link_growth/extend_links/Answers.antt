use Rattle.std.proofs.Common.{◌≡◌, ◌<◌, length, get_or, refl, sym, ap, ◌∙◌, arith, Some}
use Rattle.nf_phase_curves.proofs.Common.{length-map, slice_get-get_or, slice_get_read, LinkCurves, link_curves_after, link_after_at, link_after-length}
use Rattle.nf_phase_curves.proofs.Common.{Roomy, all_grown}
use Rattle.nf_phase_curves.proofs.Places.{grown_before, one_grown, all_are_grown}
use Rattle.nf_phase_curves.proofs.link_growth.extend_links.Goals as goal

pub loop-e-preserved : goal.loop-e-preserved
loop-e-preserved c =
    let inside : c.loop-e.e < length c.loop-e.curves = omega arith in
    one_grown (link_curves_after c.args.labels.now c.args.net.now.net.links (all_grown c.args.curves.now) c.args.steps.now) c.args.curves.now
    c.loop-e.curves c.loop-e.e c.extend_link.new.curves inside
    (link_after_at c.args.labels.now c.args.net.now.net.links (all_grown c.args.curves.now) c.args.steps.now c.loop-e.e c.link-link.result
    (get_or c.loop-e.curves c.loop-e.e c.index-curves-e.result).grown c.index-steps-e.result
    c.link-link.ensures.link
    (grown_before _ c.args.curves.now c.loop-e.curves c.loop-e.e _ (slice_get-get_or c.loop-e.curves c.loop-e.e c.index-curves-e.result inside) c.loop-e.invariant)
    (slice_get_read c.args.steps.now (length c.args.steps.now) c.loop-e.e c.index-steps-e.result refl (omega arith) c.index-steps-e.is)
    ∙ ap (λ (g : LinkCurves). Some g) (sym c.extend_link.ensures))
    c.loop-e.invariant

pub returns : goal.returns
returns c =
    let before : length (all_grown c.args.curves.now) ≡ length c.args.curves.now = length-map c.args.curves.now (λ (r : Roomy LinkCurves). r.grown) in
    all_are_grown (link_curves_after c.args.labels.now c.args.net.now.net.links (all_grown c.args.curves.now) c.args.steps.now) c.args.curves.now c.loop-e.curves c.loop-e.e
    (link_after-length c.args.labels.now c.args.net.now.net.links (all_grown c.args.curves.now) c.args.steps.now (omega arith) (omega arith) ∙ omega arith)
    (omega arith) c.loop-e.invariant

pub extend_link-requires-clause-head : goal.extend_link-requires-clause-head
extend_link-requires-clause-head c = omega (arith, c.link-link.ensures.named.network.heads c.loop-e.e c.link-link.result c.link-link.ensures.link, c.requires.labels)

pub extend_link-requires-clause-tail : goal.extend_link-requires-clause-tail
extend_link-requires-clause-tail c = omega (arith, c.link-link.ensures.named.network.tails c.loop-e.e c.link-link.result c.link-link.ensures.link, c.requires.labels)

pub extend_link-requires-clause-room : goal.extend_link-requires-clause-room
extend_link-requires-clause-room c =
    let inside : c.loop-e.e < length c.loop-e.curves = omega arith in
    c.requires.room c.loop-e.e _ (sym (c.loop-e.invariant.rest c.loop-e.e (omega arith)) ∙ slice_get-get_or c.loop-e.curves c.loop-e.e c.index-curves-e.result inside)

pub extend_link-requires-clause-later : goal.extend_link-requires-clause-later
extend_link-requires-clause-later c =
    let inside : c.loop-e.e < length c.loop-e.curves = omega arith in
    c.requires.later c.loop-e.e c.link-link.result (get_or c.loop-e.curves c.loop-e.e c.index-curves-e.result).grown c.index-steps-e.result c.link-link.ensures.link
    (grown_before _ c.args.curves.now c.loop-e.curves c.loop-e.e _ (slice_get-get_or c.loop-e.curves c.loop-e.e c.index-curves-e.result inside) c.loop-e.invariant)
    (slice_get_read c.args.steps.now (length c.args.steps.now) c.loop-e.e c.index-steps-e.result refl (omega arith) c.index-steps-e.is)
