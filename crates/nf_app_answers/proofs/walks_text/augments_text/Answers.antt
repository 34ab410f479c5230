use Rattle.nf_app_answers.proofs.Common.{IfOk-from_err}
use Rattle.nf_app_answers.proofs.walks_text.augments_text.Goals as goal

pub returns-in_err-put_augments : goal.returns-in_err-put_augments
returns-in_err-put_augments c = IfOk-from_err c.from_residual.result _ c.from_residual.ensures.0
