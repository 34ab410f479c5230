use Rattle.std.proofs.Common.{map, sym, ap, ◌∙◌, arith, Some}
use Rattle.nf_phase_curves.proofs.Common.{take_all, length-map, LinkCurves, first_curves, take_pushed, all_grown, slice_get-image}
use Rattle.nf_phase_curves.proofs.Places.{grown_pushed}
use Rattle.nf_phase_curves.proofs.link_growth.first_links.Goals as goal

pub loop-e-preserved : goal.loop-e-preserved
loop-e-preserved c =
    take_pushed (map (first_curves c.args.labels.now) c.args.net.now.net.links) (all_grown c.loop-e.curves.items)
    (all_grown c.push.new.self.items) c.loop-e.e c.in_ok-of_link.of_link.grown
    (slice_get-image (first_curves c.args.labels.now) c.args.net.now.net.links c.loop-e.e c.link-link.result c.link-link.ensures.link
    ∙ ap (λ (g : LinkCurves). Some g) (sym c.in_ok-of_link.ensures))
    c.loop-e.invariant (ap all_grown c.in_ok-push.ensures.items ∙ grown_pushed c.loop-e.curves.items c.in_ok-of_link.of_link)

pub first_of-requires-clause-head : goal.first_of-requires-clause-head
first_of-requires-clause-head c = omega (arith, c.link-link.ensures.named.network.heads c.loop-e.e c.link-link.result c.link-link.ensures.link, c.requires)

pub first_of-requires-clause-tail : goal.first_of-requires-clause-tail
first_of-requires-clause-tail c = omega (arith, c.link-link.ensures.named.network.tails c.loop-e.e c.link-link.result c.link-link.ensures.link, c.requires)

pub returns : goal.returns
returns c =
    let n = length-map c.args.net.now.net.links (first_curves c.args.labels.now) in
    let end = c.loop-e-test.false in
    let k = c.link_count-e-end.ensures in
    c.loop-e.invariant ∙ take_all c.loop-e.e (map (first_curves c.args.labels.now) c.args.net.now.net.links) (omega arith)

pub loop-e-init : goal.loop-e-init
loop-e-init c = ap all_grown c.new-curves.ensures.items
