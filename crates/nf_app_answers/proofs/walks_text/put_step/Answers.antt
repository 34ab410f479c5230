use Rattle.nf_app_answers.proofs.Common.{IfOk-from_err}
use Rattle.nf_app_answers.proofs.walks_text.put_step.Goals as goal

pub returns-in_err-push_bytes : goal.returns-in_err-push_bytes
returns-in_err-push_bytes c = IfOk-from_err c.from_residual.result _ c.from_residual.ensures.0

pub returns-in_err-push_bytes-2 : goal.returns-in_err-push_bytes-2
returns-in_err-push_bytes-2 c = IfOk-from_err c.from_residual-in_err-push_bytes-2.result _ c.from_residual-in_err-push_bytes-2.ensures.0
