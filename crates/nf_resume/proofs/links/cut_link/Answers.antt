use Rattle.std.proofs.Common.{◌∙◌}
use Rattle.nf_resume.proofs.Common.{err_from_is_err_and, passes_Q, at_part, cut_short, cut_trace, seen_trace, after_err, after_ok, stops_on, cut_ends}
use Rattle.nf_frac_def.specs.declared.Part.TheVariants.{Curve as OfCurve}
use Rattle.nf_resume.proofs.links.cut_link.Goals as goal

pub returns-in_err-inflow : goal.returns-in_err-inflow
returns-in_err-inflow c =
    let p = err_from_is_err_and c.from_residual.result c.from_residual.ensures.1 in
    rw (p.1, p.2) (stops_on c.in_err-inflow.field-0.0 (at_part OfCurve (cut_trace passes_Q c.args.tail c.args.inflow.now.curve.points))
    (at_part OfCurve (cut_ends passes_Q c.args.tail c.args.head c.args.inflow.now.curve.points c.args.outflow.now.curve.points c.args.queue.now.points))
    (λ at e. after_err OfCurve (cut_trace passes_Q c.args.tail c.args.inflow.now.curve.points) _ at e) c.in_err-inflow.ensures)

pub returns-in_err-outflow : goal.returns-in_err-outflow
returns-in_err-outflow c =
    let p = err_from_is_err_and c.from_residual-in_err-outflow.result c.from_residual-in_err-outflow.ensures.1 in
    rw (p.1, p.2) (stops_on c.in_err-outflow.field-0.0 (at_part OfCurve (cut_trace passes_Q c.args.head c.args.outflow.now.curve.points))
    (at_part OfCurve (cut_ends passes_Q c.args.tail c.args.head c.args.inflow.now.curve.points c.args.outflow.now.curve.points c.args.queue.now.points))
    (λ at e. after_ok OfCurve (cut_trace passes_Q c.args.tail c.args.inflow.now.curve.points) _ (seen_trace c.in_ok-inflow.inflow) c.in_ok-inflow.ensures
    ∙ after_err OfCurve (cut_trace passes_Q c.args.head c.args.outflow.now.curve.points) _ at e) c.in_err-outflow.ensures)

pub returns-in_err-queue : goal.returns-in_err-queue
returns-in_err-queue c =
    let p = err_from_is_err_and c.from_residual-in_err-queue.result c.from_residual-in_err-queue.ensures.1 in
    rw (p.1, p.2) (stops_on c.in_err-queue.field-0.0 (at_part OfCurve (cut_short passes_Q c.args.tail c.args.queue.now.points))
    (at_part OfCurve (cut_ends passes_Q c.args.tail c.args.head c.args.inflow.now.curve.points c.args.outflow.now.curve.points c.args.queue.now.points))
    (λ at e. after_ok OfCurve (cut_trace passes_Q c.args.tail c.args.inflow.now.curve.points) _ (seen_trace c.in_ok-inflow.inflow) c.in_ok-inflow.ensures
    ∙ after_ok OfCurve (cut_trace passes_Q c.args.head c.args.outflow.now.curve.points) _ (seen_trace c.in_ok-outflow.outflow) c.in_ok-outflow.ensures
    ∙ after_err OfCurve (cut_short passes_Q c.args.tail c.args.queue.now.points) _ at e) c.in_err-queue.ensures)

pub returns : goal.returns
returns c =
    after_ok OfCurve (cut_trace passes_Q c.args.tail c.args.inflow.now.curve.points) _ (seen_trace c.in_ok-inflow.inflow) c.in_ok-inflow.ensures
    ∙ after_ok OfCurve (cut_trace passes_Q c.args.head c.args.outflow.now.curve.points) _ (seen_trace c.in_ok-outflow.outflow) c.in_ok-outflow.ensures
    ∙ after_ok OfCurve (cut_short passes_Q c.args.tail c.args.queue.now.points) _ c.in_ok-queue.queue.points c.in_ok-queue.ensures
