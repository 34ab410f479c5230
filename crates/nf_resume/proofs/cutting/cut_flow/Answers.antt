use Rattle.std.proofs.Common.{List, length, map, sym, ap, subst, ◌∙◌}
use Rattle.nf_resume.proofs.Common.{length-map, err_from_is_err_and, 0ℚ, ◌≤ℚ◌, passes_Q, points_at, Grown, seen_trace, seen_flow, value_at_end}
use Rattle.nf_resume.proofs.Common.{points_of_each, cut_in}
use Rattle.nf_frac_def.specs.declared.Part.TheVariants.{Curve as OfCurve}
use Rattle.nf_resume.proofs.CutFlow.{labels_stop, labels_count, labels_end, links_stop, flow_is_cut}
use Rattle.nf_resume.proofs.cutting.cut_flow.Goals as goal

pub cut_labels-requires : goal.cut_labels-requires
cut_labels-requires c = c.requires.reached

pub returns-in_err-labels : goal.returns-in_err-labels
returns-in_err-labels c =
    let p = err_from_is_err_and c.from_residual.result c.from_residual.ensures.1 in
    let stops = rw c.deref.ensures.value at c.in_err-labels.ensures in
    rw (p.1, p.2) (labels_stop passes_Q OfCurve c.args.net.now.net (seen_flow c.args.flow.now) c.in_err-labels.field-0.0 stops)

pub cut_links-requires-clause-inflows : goal.cut_links-requires-clause-inflows
cut_links-requires-clause-inflows c =
    sym (length-map c.args.flow.now.inflows.items seen_trace) ∙ sym (length-map (map seen_trace c.args.flow.now.inflows.items) (λ trace. trace.points)) ∙ c.requires.shape.inflows.count

pub cut_links-requires-clause-outflows : goal.cut_links-requires-clause-outflows
cut_links-requires-clause-outflows c =
    sym (length-map c.args.flow.now.outflows.items seen_trace) ∙ sym (length-map (map seen_trace c.args.flow.now.outflows.items) (λ trace. trace.points)) ∙ c.requires.shape.outflows.count

pub cut_links-requires-clause-queues : goal.cut_links-requires-clause-queues
cut_links-requires-clause-queues c = sym (length-map c.args.flow.now.queues.items (λ curve. curve.points)) ∙ c.requires.shape.queues.count

pub cut_links-requires-clause-labels : goal.cut_links-requires-clause-labels
cut_links-requires-clause-labels c =
    let by_labels = rw c.deref.ensures.value at c.in_ok-labels.ensures in
    ap (λ (l : List Grown). length l) c.deref-2.ensures.value ∙ sym (length-map c.in_ok-labels.labels.items (λ g. g.points))
    ∙ labels_count passes_Q OfCurve c.args.net.now.net (seen_flow c.args.flow.now) (points_of_each c.in_ok-labels.labels.items) by_labels c.requires

pub cut_links-requires-clause-ends : goal.cut_links-requires-clause-ends
cut_links-requires-clause-ends c = λ v h.
    let by_labels = rw c.deref.ensures.value at c.in_ok-labels.ensures in
    subst (λ (l : List Grown). 0ℚ ≤ℚ value_at_end (points_at (points_of_each l) v)) (sym c.deref-2.ensures.value)
    (labels_end passes_Q OfCurve c.args.net.now.net (seen_flow c.args.flow.now) (points_of_each c.in_ok-labels.labels.items) by_labels c.recall.ensures.network c.requires v h)

pub returns-in_err-cuts : goal.returns-in_err-cuts
returns-in_err-cuts c =
    let p = err_from_is_err_and c.from_residual-in_err-cuts.result c.from_residual-in_err-cuts.ensures.1 in
    let by_labels = rw c.deref.ensures.value at c.in_ok-labels.ensures in
    let stops = rw c.deref-2.ensures.value at c.in_err-cuts.ensures in
    rw (p.1, p.2) (links_stop passes_Q OfCurve c.args.net.now.net (seen_flow c.args.flow.now) (points_of_each c.in_ok-labels.labels.items) by_labels c.in_err-cuts.field-0.0 stops)

pub returns : goal.returns
returns c =
    let by_labels = rw c.deref.ensures.value at c.in_ok-labels.ensures in
    let by_links = rw c.deref-2.ensures.value at c.in_ok-cuts.ensures in
    flow_is_cut passes_Q OfCurve c.args.net.now.net (seen_flow c.args.flow.now) (points_of_each c.in_ok-labels.labels.items) by_labels (map cut_in c.in_ok-cuts.cuts.items) by_links
    (map seen_trace c.in_ok-links.links.inflows.items) (map seen_trace c.in_ok-links.links.outflows.items) (points_of_each c.in_ok-links.links.queues.items) c.in_ok-links.ensures
