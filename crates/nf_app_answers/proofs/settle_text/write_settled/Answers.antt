use Rattle.nf_app_answers.proofs.Common.{gathered_written, gathered_refused}
use Rattle.nf_app_answers.proofs.settle_text.write_settled.Goals as goal

pub returns-in_err-put_settled : goal.returns-in_err-put_settled
returns-in_err-put_settled g c = gathered_refused _ _ _ _ c.new-page.ensures c.from_residual.ensures.0 c.in_err-put_settled.ensures

pub returns : goal.returns
returns g c = gathered_written _ _ _ _ c.new-page.ensures c.as_slice.ensures.value c.in_ok-put_settled.ensures c.write_text.ensures
