use Rattle.std.proofs.Common.{◌≡◌, ◌≤◌, ◌+◌, List, [], ◌∷◌, length, take, drop, suc, ap, ◌∙◌, arith, slice_get}
use Rattle.nf_report_pages.proofs.Common.{take_all, trace_lines, written_trace}
use Rattle.nf_model.specs.Curve.{Point}
use Rattle.nf_report_pages.proofs.Parts.{trace_lines_next, trace_lines_left}
use Rattle.nf_report_pages.proofs.Gathering.{gathered_nil, gathered_next, gathered_then_failed, same_gathered}
use Rattle.nf_report_pages.proofs.curves.put_trace.Goals as goal

pub loop-index-init : goal.loop-index-init
loop-index-init g c = gathered_nil

pub loop-index-preserved : goal.loop-index-preserved
loop-index-preserved g c =
    let rates = c.args.trace.now.rates.items in
    let points = c.args.trace.now.curve.points in
    let i = c.loop-index.index in
    let rate : c.rate_at.result ≡ slice_get rates i = c.rate_at.ensures ∙ ap (λ l. slice_get l i) c.deref.ensures.value in
    gathered_next (trace_lines c.args.key.now c.args.name.now (take i points) rates) (written_trace c.args.key.now c.args.name.now c.point.result c.rate_at.result ∷ [])
    (trace_lines c.args.key.now c.args.name.now (take (i + 1) points) rates)
    (trace_lines_next c.args.key.now c.args.name.now points rates i c.point.result c.rate_at.result c.point.ensures rate)
    c.loop-index.invariant c.in_ok-put_rated_point.ensures

pub returns-in_err-put_rated_point : goal.returns-in_err-put_rated_point
returns-in_err-put_rated_point g c =
    let rates = c.args.trace.now.rates.items in
    let points = c.args.trace.now.curve.points in
    let i = c.loop-index.index in
    let rate : c.rate_at.result ≡ slice_get rates i = c.rate_at.ensures ∙ ap (λ l. slice_get l i) c.deref.ensures.value in
    gathered_then_failed (trace_lines c.args.key.now c.args.name.now (take i points) rates) (written_trace c.args.key.now c.args.name.now c.point.result c.rate_at.result ∷ [])
    (trace_lines c.args.key.now c.args.name.now (drop (suc i) points) (drop (suc i) rates)) (trace_lines c.args.key.now c.args.name.now points rates) _
    (trace_lines_left c.args.key.now c.args.name.now points rates i c.point.result c.rate_at.result c.point.ensures rate)
    c.from_residual.ensures.0 c.loop-index.invariant c.in_err-put_rated_point.ensures

pub returns : goal.returns
returns g c =
    let rates = c.args.trace.now.rates.items in
    let points = c.args.trace.now.curve.points in
    let all : length points ≤ c.loop-index.index = omega arith in
    same_gathered (trace_lines c.args.key.now c.args.name.now (take c.loop-index.index points) rates) (trace_lines c.args.key.now c.args.name.now points rates)
    (ap (λ (l : List Point). trace_lines c.args.key.now c.args.name.now l rates) (take_all c.loop-index.index points all)) c.loop-index.invariant
