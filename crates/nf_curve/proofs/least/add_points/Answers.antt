use Rattle.std.proofs.Common.{sym}
use Rattle.nf_curve.proofs.Common.{err_from_is_err_and, passes_Q, is_crossed, crossing, sides_of}
use Rattle.nf_curve.proofs.Exits.{after_err}
use Rattle.nf_curve.proofs.least.add_points.Goals as goal

pub returns-in_err-point : goal.returns-in_err-point
returns-in_err-point c =
    let p = err_from_is_err_and c.from_residual.result c.from_residual.ensures.1 in
    rw (p.1, p.2) (after_err c.args.part (crossing passes_Q (is_crossed (sides_of c.args.before.now) (sides_of c.args.now.now)) (sides_of c.args.before.now)
    (sides_of c.args.now.now)) _ c.in_err-point.field-0.0 (sym c.in_err-point.ensures))

pub returns-in_err-push : goal.returns-in_err-push
returns-in_err-push c =
    let p = err_from_is_err_and c.from_residual-in_err-push.result c.from_residual-in_err-push.ensures.1 in rw (p.1, p.2) tt

pub returns-in_err-push-2 : goal.returns-in_err-push-2
returns-in_err-push-2 c =
    let p = err_from_is_err_and c.from_residual-in_err-push-2.result c.from_residual-in_err-push-2.ensures.1 in rw (p.1, p.2) tt
