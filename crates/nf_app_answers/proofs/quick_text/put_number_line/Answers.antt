use Rattle.std.proofs.Common.{[], sym, append-nil}
use Rattle.nf_app_answers.proofs.Common.{IfOk-from_err, printed}
use Rattle.nf_app_answers.proofs.QuickLines.{line_put}
use Rattle.nf_app_answers.proofs.quick_text.put_number_line.Goals as goal

pub returns-in_err-push_bytes : goal.returns-in_err-push_bytes
returns-in_err-push_bytes c = IfOk-from_err c.from_residual.result _ c.from_residual.ensures.0

pub returns-in_err-put_number : goal.returns-in_err-put_number
returns-in_err-put_number c = IfOk-from_err c.from_residual-in_err-put_number.result _ c.from_residual-in_err-put_number.ensures.0

pub returns-in_err-push_bytes-2 : goal.returns-in_err-push_bytes-2
returns-in_err-push_bytes-2 c = IfOk-from_err c.from_residual-in_err-push_bytes-2.result _ c.from_residual-in_err-push_bytes-2.ensures.0

pub returns : goal.returns
returns c =
    line_put _ _ _ c.put_number.new.text.items _ c.args.key.now (printed c.args.number) [] c.in_ok-push_bytes.ensures c.in_ok-put_number.ensures
    (sym (append-nil c.put_number.new.text.items))
    c.in_ok-push_bytes-2.ensures
