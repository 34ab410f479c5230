use Rattle.std.proofs.Common.{Bool, sym, ap, ◌∙◌}
use Rattle.nf_curve.proofs.Common.{err_from_is_err_and, passes_Q, at_part, checked_cross, checked_line, crossing, sides_of}
use Rattle.nf_curve.proofs.Exits.{after_err, after_ok}
use Rattle.nf_curve.proofs.least.crossing.Goals as goal

pub returns-in_err-time : goal.returns-in_err-time
returns-in_err-time c =
    let p = err_from_is_err_and c.from_residual.result c.from_residual.ensures.1 in
    rw (p.1, p.2) (sym (ap (λ (t : Bool). at_part c.args.part (crossing passes_Q t (sides_of c.args.before.now) (sides_of c.args.now.now)))
    (sym c.is_crossed.ensures ∙ c.if-not-is_crossed.false)
    ∙ after_err c.args.part (checked_cross passes_Q (sides_of c.args.before.now) (sides_of c.args.now.now)) _ c.in_err-time.field-0.0 (sym c.in_err-time.ensures)))

pub returns-in_err-value : goal.returns-in_err-value
returns-in_err-value c =
    let p = err_from_is_err_and c.from_residual-in_err-value.result c.from_residual-in_err-value.ensures.1 in
    rw (p.1, p.2) (sym (ap (λ (t : Bool). at_part c.args.part (crossing passes_Q t (sides_of c.args.before.now) (sides_of c.args.now.now)))
    (sym c.is_crossed.ensures ∙ c.if-not-is_crossed.false)
    ∙ after_ok c.args.part (checked_cross passes_Q (sides_of c.args.before.now) (sides_of c.args.now.now)) _ c.in_ok-time.time (sym c.in_ok-time.ensures)
    ∙ after_err c.args.part (checked_line passes_Q (c.args.before.now.time, c.args.before.now.left)
    (c.args.now.now.time, c.args.now.now.left) c.in_ok-time.time) _ c.in_err-value.field-0.0 (sym c.in_err-value.ensures)))
