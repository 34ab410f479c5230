use Rattle.std.proofs.Common.{◌≡◌}
use Rattle.nf_resume.proofs.Common.{err_from_is_err_and, passes_Q, at_part, checked_short, cut_short, after_err, after_ok, stops_on}
use Rattle.nf_frac_def.specs.declared.Part.TheVariants.{Curve as OfCurve}
use Rattle.nf_curve_def.specs.Values.{checked_cut}
use Rattle.nf_resume.proofs.curves.cut_short.Goals as goal

pub returns-in_err-cut : goal.returns-in_err-cut
returns-in_err-cut c =
    let p = err_from_is_err_and c.from_residual.result c.from_residual.ensures.1 in
    rw (p.1, p.2) (stops_on c.in_err-cut.field-0.0 (at_part OfCurve (checked_cut passes_Q c.args.curve.now.points c.args.last))
    (at_part OfCurve (cut_short passes_Q c.args.last c.args.curve.now.points))
    (λ at e. after_err OfCurve (checked_cut passes_Q c.args.curve.now.points c.args.last) _ at e) c.in_err-cut.ensures.list)

pub returns : goal.returns
returns c =
    let short_is : at_part OfCurve (cut_short passes_Q c.args.last c.args.curve.now.points) ≡ at_part OfCurve (checked_short passes_Q c.in_ok-cut.cut.points)
    = after_ok OfCurve (checked_cut passes_Q c.args.curve.now.points c.args.last) (checked_short passes_Q) c.in_ok-cut.cut.points c.in_ok-cut.ensures.list in
    rw short_is assumption
