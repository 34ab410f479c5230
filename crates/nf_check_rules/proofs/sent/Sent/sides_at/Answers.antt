use Rattle.std.proofs.Common.{sym, ◌∙◌}
use Rattle.nf_check_rules.proofs.Common.{err_from_is_err_and, passes_Q, Check, checked_value, after_err, after_ok}
use Rattle.nf_check_rules.proofs.sent.Sent.sides_at.Goals as goal

pub returns-in_err-left : goal.returns-in_err-left
returns-in_err-left c =
    let given = rw c.as_points.ensures.points at c.in_err-left.ensures in
    let p = err_from_is_err_and c.from_residual.result c.from_residual.ensures.1 in
    rw (p.1, p.2) (sym (after_err Check (checked_value passes_Q c.args.self.now.exits.points c.args.time) _ c.in_err-left.field-0.0 (sym given)))

pub returns-in_err-right : goal.returns-in_err-right
returns-in_err-right c =
    let left = rw c.as_points.ensures.points at c.in_ok-left.ensures in
    let given = rw c.as_points-2.ensures.points at c.in_err-right.ensures in
    let p = err_from_is_err_and c.from_residual-in_err-right.result c.from_residual-in_err-right.ensures.1 in
    rw (p.1, p.2) (sym (after_ok Check (checked_value passes_Q c.args.self.now.exits.points c.args.time) _ c.in_ok-left.left (sym left)
    ∙ after_err Check (checked_value passes_Q c.args.self.now.labels.points c.args.time) _ c.in_err-right.field-0.0 (sym given)))

pub returns : goal.returns
returns c =
    let left = rw c.as_points.ensures.points at c.in_ok-left.ensures in
    let right = rw c.as_points-2.ensures.points at c.in_ok-right.ensures in
    sym (after_ok Check (checked_value passes_Q c.args.self.now.exits.points c.args.time) _ c.in_ok-left.left (sym left)
    ∙ after_ok Check (checked_value passes_Q c.args.self.now.labels.points c.args.time) _ c.in_ok-right.right (sym right))
