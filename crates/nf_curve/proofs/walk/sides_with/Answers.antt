use Rattle.std.proofs.Common.{sym, ◌∙◌}
use Rattle.nf_curve.proofs.Common.{err_from_is_err_and, passes_Q, checked_value}
use Rattle.nf_curve.proofs.Exits.{after_err, after_ok}
use Rattle.nf_curve.proofs.walk.sides_with.Goals as goal

pub returns-in_err-left_value-clause-list : goal.returns-in_err-left_value-clause-list
returns-in_err-left_value-clause-list c =
    let p = err_from_is_err_and c.from_residual.result c.from_residual.ensures.1 in
    rw (p.1, p.2) (sym (after_err c.args.part (checked_value passes_Q c.args.left.now c.args.now.now.time) _ c.in_err-left_value.field-0.0 (sym c.in_err-left_value.ensures.value)))

pub returns-in_err-right_value-clause-list : goal.returns-in_err-right_value-clause-list
returns-in_err-right_value-clause-list c =
    let p = err_from_is_err_and c.from_residual-in_err-right_value.result c.from_residual-in_err-right_value.ensures.1 in
    rw (p.1, p.2) (sym (after_ok c.args.part (checked_value passes_Q c.args.left.now c.args.now.now.time) _ c.in_ok-left_value.left_value (sym c.in_ok-left_value.ensures.value)
    ∙ after_err c.args.part (checked_value passes_Q c.args.right.now c.args.now.now.time) _ c.in_err-right_value.field-0.0 (sym c.in_err-right_value.ensures.value)))

pub returns-clause-list : goal.returns-clause-list
returns-clause-list c =
    sym (after_ok c.args.part (checked_value passes_Q c.args.left.now c.args.now.now.time) _ c.in_ok-left_value.left_value (sym c.in_ok-left_value.ensures.value)
    ∙ after_ok c.args.part (checked_value passes_Q c.args.right.now c.args.now.now.time) _ c.in_ok-right_value.right_value (sym c.in_ok-right_value.ensures.value))
