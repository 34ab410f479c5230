use Rattle.std.proofs.Common.{◌++◌, map, ap, ◌∙◌, codes}
use Rattle.nf_app_answers.proofs.Common.{IfOk-from_err, printed, Augment, step_word, augment_line}
use Rattle.nf_app_answers.proofs.QuickLines.{line_put}
use Rattle.nf_app_answers.proofs.walks_text.put_augment.Goals as goal

pub returns-in_err-push_bytes : goal.returns-in_err-push_bytes
returns-in_err-push_bytes c = IfOk-from_err c.from_residual.result _ c.from_residual.ensures.0

pub returns-in_err-put_number : goal.returns-in_err-put_number
returns-in_err-put_number c = IfOk-from_err c.from_residual-in_err-put_number.result _ c.from_residual-in_err-put_number.ensures.0

pub returns-in_err-put_walk : goal.returns-in_err-put_walk
returns-in_err-put_walk c = IfOk-from_err c.from_residual-in_err-put_walk.result _ c.from_residual-in_err-put_walk.ensures.0

pub returns-in_err-push_bytes-2 : goal.returns-in_err-push_bytes-2
returns-in_err-push_bytes-2 c = IfOk-from_err c.from_residual-in_err-push_bytes-2.result _ c.from_residual-in_err-push_bytes-2.ensures.0

pub returns : goal.returns
returns c =
    line_put _ _ _ _ _ (codes "augment") (printed c.augment.inside.amount) (map (step_word c.args.net.now.link_names) c.augment.inside.walk.steps)
    c.in_ok-push_bytes.ensures c.in_ok-put_number.ensures c.in_ok-put_walk.ensures c.in_ok-push_bytes-2.ensures
    ∙ ap (λ (a : Augment). c.args.text.now.items ++ augment_line c.args.net.now.link_names a) c.augment.view_is
