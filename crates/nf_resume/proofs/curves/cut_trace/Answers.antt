use Rattle.std.proofs.Common.{◌∙◌}
use Rattle.nf_resume.proofs.Common.{err_from_is_err_and, passes_Q, at_part, checked_slopes, cut_short, cut_trace, after_err, after_ok, stops_on}
use Rattle.nf_frac_def.specs.declared.Part.TheVariants.{Curve as OfCurve}
use Rattle.nf_resume.proofs.curves.cut_trace.Goals as goal

pub returns-in_err-curve : goal.returns-in_err-curve
returns-in_err-curve c =
    let p = err_from_is_err_and c.from_residual.result c.from_residual.ensures.1 in
    rw (p.1, p.2) (stops_on c.in_err-curve.field-0.0 (at_part OfCurve (cut_short passes_Q c.args.last c.args.trace.now.curve.points))
    (at_part OfCurve (cut_trace passes_Q c.args.last c.args.trace.now.curve.points))
    (λ at e. after_err OfCurve (cut_short passes_Q c.args.last c.args.trace.now.curve.points) _ at e) c.in_err-curve.ensures)

pub returns-in_err-rates : goal.returns-in_err-rates
returns-in_err-rates c =
    let p = err_from_is_err_and c.from_residual-in_err-rates.result c.from_residual-in_err-rates.ensures.1 in
    rw (p.1, p.2) (stops_on c.in_err-rates.field-0.0 (at_part OfCurve (checked_slopes passes_Q c.in_ok-curve.curve.points))
    (at_part OfCurve (cut_trace passes_Q c.args.last c.args.trace.now.curve.points))
    (λ at e. after_ok OfCurve (cut_short passes_Q c.args.last c.args.trace.now.curve.points) _ c.in_ok-curve.curve.points c.in_ok-curve.ensures
    ∙ after_err OfCurve (checked_slopes passes_Q c.in_ok-curve.curve.points) _ at e) c.in_err-rates.ensures)

pub returns : goal.returns
returns c =
    after_ok OfCurve (cut_short passes_Q c.args.last c.args.trace.now.curve.points) _ c.in_ok-curve.curve.points c.in_ok-curve.ensures
    ∙ after_ok OfCurve (checked_slopes passes_Q c.in_ok-curve.curve.points) _ c.in_ok-rates.rates.items c.in_ok-rates.ensures
