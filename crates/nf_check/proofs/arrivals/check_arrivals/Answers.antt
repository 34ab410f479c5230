use Rattle.std.proofs.Common.{ap, ◌∙◌}
use Rattle.nf_check.proofs.Common.{err_from_is_err_and, points_at, passes_Q, C3, Node, flow_in, labels_in, loaded_in, in_view, compared_by, arrivals_list}
use Rattle.nf_check.proofs.Common.{ends, ends_as, goes_on, tries_as, arrivals-is}
use Rattle.nf_check.proofs.arrivals.check_arrivals.Goals as goal

pub returns-in_err-compare-clause-tries : goal.returns-in_err-compare-clause-tries
returns-in_err-compare-clause-tries c =
    let p = err_from_is_err_and c.from_residual-in_err-compare.result c.from_residual-in_err-compare.ensures.1 in
    let label_is = c.label_at-label.ensures.points ∙ ap (points_at (labels_in c.args.worked.now)) c.source-source.ensures.value in
    rw (p.1, p.2) (ends_as c.in_err-compare.field-0.0 (in_view arrivals_list c.args.worked.now) _
    (arrivals-is passes_Q c.args.worked.now.net.now.net (flow_in c.args.worked.now) (labels_in c.args.worked.now)
    (loaded_in c.args.worked.now) c.source-source.result c.label_at-label.result.now.points c.in_ok-line.line.points c.source-source.ensures.value
    label_is c.in_ok-line.ensures)
    (ends c.in_err-compare.field-0.0 (compared_by passes_Q C3 (Node c.source-source.result) c.label_at-label.result.now.points c.in_ok-line.line.points
    c.args.worked.now.flow.now.reached) _ c.in_err-compare.ensures))

pub returns-clause-tries : goal.returns-clause-tries
returns-clause-tries c =
    let label_is = c.label_at-label.ensures.points ∙ ap (points_at (labels_in c.args.worked.now)) c.source-source.ensures.value in
    tries_as (λ _. tt) c.check_arrivals_at.result (in_view arrivals_list c.args.worked.now) _
    (arrivals-is passes_Q c.args.worked.now.net.now.net (flow_in c.args.worked.now) (labels_in c.args.worked.now)
    (loaded_in c.args.worked.now) c.source-source.result c.label_at-label.result.now.points c.in_ok-line.line.points c.source-source.ensures.value
    label_is c.in_ok-line.ensures
    ∙ goes_on (compared_by passes_Q C3 (Node c.source-source.result) c.label_at-label.result.now.points c.in_ok-line.line.points
    c.args.worked.now.flow.now.reached) _ tt c.in_ok-compare.ensures)
    c.check_arrivals_at.ensures.tries

pub identity-requires : goal.identity-requires
identity-requires c = c.args.worked.now.known.reached

pub label_at-label-requires : goal.label_at-label-requires
label_at-label-requires c = c.source-source.ensures.node

pub compare-requires : goal.compare-requires
compare-requires c = c.args.worked.now.known.reached
