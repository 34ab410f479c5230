use Rattle.std.proofs.Common.{◌≡◌, ◌+◌, ◌<◌, List, length, map, refl, sym, ap, subst, ◌∙◌, arith}
use Rattle.nf_phase_curves.proofs.Common.{length-map, slice_get_read, err_from_is_err_and, Curve, passes_Q, at_part, LinkCurves, seen_trace, Grown}
use Rattle.nf_phase_curves.proofs.Common.{stops_on, slice_get-image, all_grown, of_link, of_links}
use Rattle.nf_phase_curves.proofs.Places.{grown_pushed}
use Rattle.nf_phase_curves.proofs.OneByOne.{LinksSoFar, no_links, one_link, link_passes, links_done}
use Rattle.nf_phase_curves.proofs.link_growth.restore_links.Goals as goal

pub loop-e-init : goal.loop-e-init
loop-e-init c =
    subst (λ (l : List LinkCurves). LinksSoFar passes_Q (map seen_trace c.args.inflows.now) (map seen_trace c.args.outflows.now)
    (map (λ (g : Grown). g.points) c.args.queues.now) l 0) (sym (ap all_grown c.new-curves.ensures.items))
    (no_links passes_Q (map seen_trace c.args.inflows.now) (map seen_trace c.args.outflows.now) (map (λ (g : Grown). g.points) c.args.queues.now))

pub of-requires-clause-inflow : goal.of-requires-clause-inflow
of-requires-clause-inflow c =
    let in_inflows : c.loop-e.e < length c.args.inflows.now = omega arith in
    c.requires.inflow_rates c.loop-e.e (seen_trace c.index-inflows-e.result)
    (slice_get-image seen_trace c.args.inflows.now c.loop-e.e c.index-inflows-e.result
    (slice_get_read c.args.inflows.now _ c.loop-e.e c.index-inflows-e.result refl in_inflows c.index-inflows-e.is))

pub of-requires-clause-outflow : goal.of-requires-clause-outflow
of-requires-clause-outflow c =
    let in_outflows : c.loop-e.e < length c.args.outflows.now = omega arith in
    c.requires.outflow_rates c.loop-e.e (seen_trace c.index-outflows-e.result)
    (slice_get-image seen_trace c.args.outflows.now c.loop-e.e c.index-outflows-e.result
    (slice_get_read c.args.outflows.now _ c.loop-e.e c.index-outflows-e.result refl in_outflows c.index-outflows-e.is))

pub returns-in_err-next : goal.returns-in_err-next
returns-in_err-next c =
    let p = err_from_is_err_and c.from_residual.result c.from_residual.ensures.1 in
    let in_queues : c.loop-e.e < length c.args.queues.now = omega arith in
    let in_inflows : c.loop-e.e < length c.args.inflows.now = omega arith in
    let in_outflows : c.loop-e.e < length c.args.outflows.now = omega arith in
    let i = slice_get-image seen_trace c.args.inflows.now c.loop-e.e c.index-inflows-e.result
    (slice_get_read c.args.inflows.now _ c.loop-e.e c.index-inflows-e.result refl in_inflows c.index-inflows-e.is) in
    let o = slice_get-image seen_trace c.args.outflows.now c.loop-e.e c.index-outflows-e.result
    (slice_get_read c.args.outflows.now _ c.loop-e.e c.index-outflows-e.result refl in_outflows c.index-outflows-e.is) in
    let q = slice_get-image (λ (g : Grown). g.points) c.args.queues.now c.loop-e.e c.index-queues-e.result
    (slice_get_read c.args.queues.now _ c.loop-e.e c.index-queues-e.result refl in_queues c.index-queues-e.is) in
    rw (p.1, p.2) (stops_on c.in_err-next.field-0.0 (at_part Curve (of_link passes_Q (seen_trace c.index-inflows-e.result)
    (seen_trace c.index-outflows-e.result) c.index-queues-e.result.points))
    (at_part Curve (of_links passes_Q (map seen_trace c.args.inflows.now) (map seen_trace c.args.outflows.now) (map (λ (g : Grown). g.points) c.args.queues.now)))
    (link_passes passes_Q (map seen_trace c.args.inflows.now) (map seen_trace c.args.outflows.now) (map (λ (g : Grown). g.points) c.args.queues.now)
    (all_grown c.loop-e.curves.items) c.loop-e.e
    (seen_trace c.index-inflows-e.result) (seen_trace c.index-outflows-e.result) c.index-queues-e.result.points i o q c.loop-e.invariant) c.in_err-next.ensures)

pub loop-e-preserved : goal.loop-e-preserved
loop-e-preserved c =
    let in_queues : c.loop-e.e < length c.args.queues.now = omega arith in
    let in_inflows : c.loop-e.e < length c.args.inflows.now = omega arith in
    let in_outflows : c.loop-e.e < length c.args.outflows.now = omega arith in
    let i = slice_get-image seen_trace c.args.inflows.now c.loop-e.e c.index-inflows-e.result
    (slice_get_read c.args.inflows.now _ c.loop-e.e c.index-inflows-e.result refl in_inflows c.index-inflows-e.is) in
    let o = slice_get-image seen_trace c.args.outflows.now c.loop-e.e c.index-outflows-e.result
    (slice_get_read c.args.outflows.now _ c.loop-e.e c.index-outflows-e.result refl in_outflows c.index-outflows-e.is) in
    let q = slice_get-image (λ (g : Grown). g.points) c.args.queues.now c.loop-e.e c.index-queues-e.result
    (slice_get_read c.args.queues.now _ c.loop-e.e c.index-queues-e.result refl in_queues c.index-queues-e.is) in
    subst (λ (l : List LinkCurves). LinksSoFar passes_Q (map seen_trace c.args.inflows.now) (map seen_trace c.args.outflows.now)
    (map (λ (g : Grown). g.points) c.args.queues.now) l (c.loop-e.e + 1))
    (sym (ap all_grown c.in_ok-push.ensures.items ∙ grown_pushed c.loop-e.curves.items c.in_ok-next.next))
    (one_link passes_Q (map seen_trace c.args.inflows.now) (map seen_trace c.args.outflows.now) (map (λ (g : Grown). g.points) c.args.queues.now) (all_grown c.loop-e.curves.items) c.loop-e.e
    (seen_trace c.index-inflows-e.result) (seen_trace c.index-outflows-e.result) c.index-queues-e.result.points i o q c.loop-e.invariant c.in_ok-next.next.grown c.in_ok-next.ensures)

pub returns : goal.returns
returns c =
    let end : c.loop-e.e ≡ length c.args.queues.now = omega arith in
    links_done passes_Q (map seen_trace c.args.inflows.now) (map seen_trace c.args.outflows.now) (map (λ (g : Grown). g.points) c.args.queues.now)
    (all_grown c.loop-e.curves.items) c.loop-e.e
    (end ∙ c.requires.queues ∙ sym (length-map c.args.inflows.now seen_trace)) (end ∙ c.requires.queues ∙ sym c.requires.outflows ∙ sym (length-map c.args.outflows.now seen_trace))
    (end ∙ sym (length-map c.args.queues.now (λ (g : Grown). g.points))) c.loop-e.invariant
