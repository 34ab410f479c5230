use Rattle.nf_forever.proofs.Common.{gathered_written, gathered_refused}
use Rattle.nf_forever.proofs.text.write_forever.Goals as goal

pub returns-in_err-put_forever : goal.returns-in_err-put_forever
returns-in_err-put_forever g c = gathered_refused _ _ _ _ c.new-page.ensures c.from_residual.ensures.0 c.in_err-put_forever.ensures

pub returns : goal.returns
returns g c = gathered_written _ _ _ _ c.new-page.ensures c.as_slice.ensures.value c.in_ok-put_forever.ensures c.write_text.ensures
