use Rattle.std.proofs.Common.{ℕ, refl, ap, ◌∙◌}
use Rattle.nf_check_rules.proofs.Common.{err_from_is_err_and, points_at, points_of, passes_Q, Check, C7, Node, total_in, total_out, sink_rules, flow_in}
use Rattle.nf_check_rules.proofs.Common.{labels_in, loaded_in, in_view, compared_by, stays_by, of_halt, first_value}
use Rattle.nf_check_rules.proofs.Trying.{goes_on, ends, ends_as, part_goes, part_stops, tries_as}
use Rattle.nf_check_rules.proofs.Testing.{sink-is}
use Rattle.nf_check_rules.proofs.balances.check_sink.Goals as goal

pub returns-in_err-comes : goal.returns-in_err-comes
returns-in_err-comes c =
    let p = err_from_is_err_and c.from_residual.result c.from_residual.ensures.1 in
    let label_is = c.label_at-label.ensures.points ∙ ap (points_at (labels_in c.args.worked.now)) c.sink-sink.ensures.value in
    rw (p.1, p.2) (ends_as (of_halt c.in_err-comes.field-0.0) (in_view sink_rules c.args.worked.now c.args.supplied.now.points) _
    (sink-is passes_Q c.args.worked.now.net.now.net (flow_in c.args.worked.now) (labels_in c.args.worked.now)
    (loaded_in c.args.worked.now) c.args.supplied.now.points c.sink-sink.result c.label_at-label.result.now.points
    (first_value c.label_at-label.result.now.points) c.sink-sink.ensures.value label_is refl)
    (part_stops Check (total_in passes_Q (loaded_in c.args.worked.now) c.args.worked.now.net.now.net.links c.sink-sink.result) _ c.in_err-comes.field-0.0 c.in_err-comes.ensures))

pub returns-in_err-goes : goal.returns-in_err-goes
returns-in_err-goes c =
    let p = err_from_is_err_and c.from_residual-in_err-goes.result c.from_residual-in_err-goes.ensures.1 in
    let label_is = c.label_at-label.ensures.points ∙ ap (points_at (labels_in c.args.worked.now)) c.sink-sink.ensures.value in
    rw (p.1, p.2) (ends_as (of_halt c.in_err-goes.field-0.0) (in_view sink_rules c.args.worked.now c.args.supplied.now.points) _
    (sink-is passes_Q c.args.worked.now.net.now.net (flow_in c.args.worked.now) (labels_in c.args.worked.now)
    (loaded_in c.args.worked.now) c.args.supplied.now.points c.sink-sink.result c.label_at-label.result.now.points
    (first_value c.label_at-label.result.now.points) c.sink-sink.ensures.value label_is refl
    ∙ part_goes Check (total_in passes_Q (loaded_in c.args.worked.now) c.args.worked.now.net.now.net.links c.sink-sink.result) _ c.in_ok-comes.comes.points c.in_ok-comes.ensures)
    (part_stops Check (total_out passes_Q (points_of (flow_in c.args.worked.now).inflows) c.args.worked.now.net.now.net.links c.sink-sink.result) _
    c.in_err-goes.field-0.0 c.in_err-goes.ensures))

pub returns-in_err-compare : goal.returns-in_err-compare
returns-in_err-compare c =
    let p = err_from_is_err_and c.from_residual-in_err-compare.result c.from_residual-in_err-compare.ensures.1 in
    let label_is = c.label_at-label.ensures.points ∙ ap (points_at (labels_in c.args.worked.now)) c.sink-sink.ensures.value in
    rw (p.1, p.2) (ends_as c.in_err-compare.field-0.0 (in_view sink_rules c.args.worked.now c.args.supplied.now.points) _
    (sink-is passes_Q c.args.worked.now.net.now.net (flow_in c.args.worked.now) (labels_in c.args.worked.now)
    (loaded_in c.args.worked.now) c.args.supplied.now.points c.sink-sink.result c.label_at-label.result.now.points c.first_value.result
    c.sink-sink.ensures.value label_is c.first_value.ensures.value
    ∙ part_goes Check (total_in passes_Q (loaded_in c.args.worked.now) c.args.worked.now.net.now.net.links c.sink-sink.result) _ c.in_ok-comes.comes.points c.in_ok-comes.ensures
    ∙ part_goes Check (total_out passes_Q (points_of (flow_in c.args.worked.now).inflows) c.args.worked.now.net.now.net.links c.sink-sink.result) _
    c.in_ok-goes.goes.points c.in_ok-goes.ensures)
    (ends c.in_err-compare.field-0.0 (compared_by passes_Q C7 (Node c.sink-sink.result) c.in_ok-comes.comes.points c.in_ok-goes.goes.points
    c.first_value.result) _ c.in_err-compare.ensures))

pub check_stays-requires : goal.check_stays-requires
check_stays-requires c = c.label_at-label.ensures.from_zero

pub returns : goal.returns
returns c =
    let label_is = c.label_at-label.ensures.points ∙ ap (points_at (labels_in c.args.worked.now)) c.sink-sink.ensures.value in
    tries_as (λ _. tt) c.check_stays.result (in_view sink_rules c.args.worked.now c.args.supplied.now.points)
    (stays_by passes_Q c.args.worked.now.net.now.net.sink c.label_at-label.result.now.points c.in_ok-comes.comes.points c.in_ok-goes.goes.points
    c.args.supplied.now.points c.args.worked.now.flow.now.reached)
    (sink-is passes_Q c.args.worked.now.net.now.net (flow_in c.args.worked.now) (labels_in c.args.worked.now)
    (loaded_in c.args.worked.now) c.args.supplied.now.points c.sink-sink.result c.label_at-label.result.now.points c.first_value.result
    c.sink-sink.ensures.value label_is c.first_value.ensures.value
    ∙ part_goes Check (total_in passes_Q (loaded_in c.args.worked.now) c.args.worked.now.net.now.net.links c.sink-sink.result) _ c.in_ok-comes.comes.points c.in_ok-comes.ensures
    ∙ part_goes Check (total_out passes_Q (points_of (flow_in c.args.worked.now).inflows) c.args.worked.now.net.now.net.links c.sink-sink.result) _
    c.in_ok-goes.goes.points c.in_ok-goes.ensures
    ∙ goes_on (compared_by passes_Q C7 (Node c.sink-sink.result) c.in_ok-comes.comes.points c.in_ok-goes.goes.points c.first_value.result) _ tt c.in_ok-compare.ensures
    ∙ ap (λ (v : ℕ). stays_by passes_Q v c.label_at-label.result.now.points c.in_ok-comes.comes.points c.in_ok-goes.goes.points c.args.supplied.now.points
    c.args.worked.now.flow.now.reached) c.sink-sink.ensures.value)
    c.check_stays.ensures

pub compare-requires : goal.compare-requires
compare-requires c = c.first_value.ensures.nonnegative c.label_at-label.ensures.from_zero.none_negative

pub label_at-label-requires : goal.label_at-label-requires
label_at-label-requires c = c.sink-sink.ensures.node

pub total_in-requires : goal.total_in-requires
total_in-requires c = c.args.worked.now.known.links

pub total_out-requires : goal.total_out-requires
total_out-requires c = c.args.worked.now.known.inflows
