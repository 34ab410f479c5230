use Rattle.std.proofs.Common.{◌≡◌, List, ap, ◌∙◌}
use Rattle.nf_check.proofs.Common.{err_from_is_err_and, passes_Q, Check, points_at, seen_flow, Grown, checked_cut, C1, Node, negative_point, unless}
use Rattle.nf_check.proofs.Common.{label_cut, points_of_each, goes_on, ends, ends_as, part_goes, part_stops}
use Rattle.nf_check.proofs.labels.cut_label.Goals as goal

pub returns-in_err-cut : goal.returns-in_err-cut
returns-in_err-cut c = λ net.
    let p = err_from_is_err_and c.from_residual.result c.from_residual.ensures.1 in
    let label_is : c.curve_at-label.result.now.points ≡ points_at (seen_flow c.args.flow.now).labels c.args.node =
    c.curve_at-label.ensures ∙ ap (λ (l : List Grown). points_at (points_of_each l) c.index.result) c.deref.ensures.value ∙ ap (points_at (seen_flow c.args.flow.now).labels) c.index.ensures in
    let stopped = rw label_is at c.in_err-cut.ensures.list in
    rw (p.1, p.2) (part_stops Check (checked_cut passes_Q (points_at (seen_flow c.args.flow.now).labels c.args.node) c.args.flow.now.reached) _ c.in_err-cut.field-0.0 stopped)

pub returns-in_err-unless : goal.returns-in_err-unless
returns-in_err-unless c = λ net.
    let p = err_from_is_err_and c.from_residual-in_err-unless.result c.from_residual-in_err-unless.ensures.1 in
    let label_is : c.curve_at-label.result.now.points ≡ points_at (seen_flow c.args.flow.now).labels c.args.node =
    c.curve_at-label.ensures ∙ ap (λ (l : List Grown). points_at (points_of_each l) c.index.result) c.deref.ensures.value ∙ ap (points_at (seen_flow c.args.flow.now).labels) c.index.ensures in
    let came = rw label_is at c.in_ok-cut.ensures.list in
    let ended = rw c.negative_point.ensures at c.in_err-unless.ensures in
    rw (p.1, p.2) (ends_as c.in_err-unless.field-0.0 (label_cut passes_Q net (seen_flow c.args.flow.now) c.args.node) _
    (part_goes Check (checked_cut passes_Q (points_at (seen_flow c.args.flow.now).labels c.args.node) c.args.flow.now.reached) _ c.in_ok-cut.cut.points came)
    (ends c.in_err-unless.field-0.0 (unless C1 (Node c.args.node) (negative_point c.in_ok-cut.cut.points)) _ ended))

pub returns : goal.returns
returns c = λ net.
    let label_is : c.curve_at-label.result.now.points ≡ points_at (seen_flow c.args.flow.now).labels c.args.node =
    c.curve_at-label.ensures ∙ ap (λ (l : List Grown). points_at (points_of_each l) c.index.result) c.deref.ensures.value ∙ ap (points_at (seen_flow c.args.flow.now).labels) c.index.ensures in
    let came = rw label_is at c.in_ok-cut.ensures.list in
    let through = rw c.negative_point.ensures at c.in_ok-unless.ensures in
    part_goes Check (checked_cut passes_Q (points_at (seen_flow c.args.flow.now).labels c.args.node) c.args.flow.now.reached) _ c.in_ok-cut.cut.points came
    ∙ goes_on (unless C1 (Node c.args.node) (negative_point c.in_ok-cut.cut.points)) _ tt through
