use Rattle.std.proofs.Common.{sym, ap, ◌∙◌, Ok}
use Rattle.nf_phase_curves.proofs.Common.{err_from_is_err_and, Curve, passes_Q, GrowingCurve, last_slope, after_err, after_ok}
use Rattle.nf_phase_curves.proofs.growing.GrowingCurve.of.Goals as goal

pub returns-in_err-slope : goal.returns-in_err-slope
returns-in_err-slope c =
    let p = err_from_is_err_and c.from_residual.result c.from_residual.ensures.1 in
    rw (p.1, p.2) (after_err Curve (last_slope passes_Q c.args.curve.now.points) _ c.in_err-slope.field-0.0 (sym c.in_err-slope.ensures.list))

pub returns : goal.returns
returns c =
    after_ok Curve (last_slope passes_Q c.args.curve.now.points) _ c.in_ok-slope.slope (sym c.in_ok-slope.ensures.list)
    ∙ ap (λ (g : GrowingCurve). Ok g) (λ i. record { points = sym c.in_ok-grown.ensures.points i; slope = sym c.in_ok-grown.ensures.slope i })
