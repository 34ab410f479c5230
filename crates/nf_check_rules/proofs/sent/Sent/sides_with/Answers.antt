use Rattle.std.proofs.Common.{sym, ◌∙◌}
use Rattle.nf_check_rules.proofs.Common.{err_from_is_err_and, passes_Q, Check, checked_value, after_err, after_ok}
use Rattle.nf_check_rules.proofs.sent.Sent.sides_with.Goals as goal

pub returns-in_err-left-clause-list : goal.returns-in_err-left-clause-list
returns-in_err-left-clause-list c =
    let given = rw c.as_points-exits.ensures.points at c.in_err-left.ensures.value in
    let p = err_from_is_err_and c.from_residual.result c.from_residual.ensures.1 in
    rw (p.1, p.2) (sym (after_err Check (checked_value passes_Q c.args.self.now.exits.points c.args.time) _ c.in_err-left.field-0.0 (sym given)))

pub returns-in_err-right-clause-list : goal.returns-in_err-right-clause-list
returns-in_err-right-clause-list c =
    let left = rw c.as_points-exits.ensures.points at c.in_ok-left.ensures.value in
    let given = rw c.as_points-labels.ensures.points at c.in_err-right.ensures.value in
    let p = err_from_is_err_and c.from_residual-in_err-right.result c.from_residual-in_err-right.ensures.1 in
    rw (p.1, p.2) (sym (after_ok Check (checked_value passes_Q c.args.self.now.exits.points c.args.time) _ c.in_ok-left.left (sym left)
    ∙ after_err Check (checked_value passes_Q c.args.self.now.labels.points c.args.time) _ c.in_err-right.field-0.0 (sym given)))

pub returns-clause-list : goal.returns-clause-list
returns-clause-list c =
    let left = rw c.as_points-exits.ensures.points at c.in_ok-left.ensures.value in
    let right = rw c.as_points-labels.ensures.points at c.in_ok-right.ensures.value in
    sym (after_ok Check (checked_value passes_Q c.args.self.now.exits.points c.args.time) _ c.in_ok-left.left (sym left)
    ∙ after_ok Check (checked_value passes_Q c.args.self.now.labels.points c.args.time) _ c.in_ok-right.right (sym right))

pub value_with-requires-clause-kept : goal.value_with-requires-clause-kept
value_with-requires-clause-kept c = rw c.as_points-exits.ensures.points c.requires.kept.exits

pub value_with-requires-2-clause-kept : goal.value_with-requires-2-clause-kept
value_with-requires-2-clause-kept c = rw c.as_points-labels.ensures.points c.requires.kept.labels

pub returns-in_err-left-clause-kept : goal.returns-in_err-left-clause-kept
returns-in_err-left-clause-kept c = record { taken = c.requires.kept.taken; exits = rw c.as_points-exits.ensures.points at c.in_err-left.ensures.kept; labels = c.requires.kept.labels }

pub returns-in_err-right-clause-kept : goal.returns-in_err-right-clause-kept
returns-in_err-right-clause-kept c = record {
  taken = c.requires.kept.taken;
  exits = rw c.as_points-exits.ensures.points at c.in_ok-left.ensures.kept;
  labels = rw c.as_points-labels.ensures.points at c.in_err-right.ensures.kept;
}

pub returns-clause-kept : goal.returns-clause-kept
returns-clause-kept c = record {
  taken = c.requires.kept.taken;
  exits = rw c.as_points-exits.ensures.points at c.in_ok-left.ensures.kept;
  labels = rw c.as_points-labels.ensures.points at c.in_ok-right.ensures.kept;
}
