use Rattle.nf_report_pages.proofs.Gathering.{gathered_written, gathered_refused}
use Rattle.nf_report_pages.proofs.causes.write_passed_call.Goals as goal

pub returns-in_err-put_passed : goal.returns-in_err-put_passed
returns-in_err-put_passed g c = gathered_refused _ _ _ _ c.new-page.ensures c.from_residual.ensures.0 c.in_err-put_passed.ensures

pub returns : goal.returns
returns g c = gathered_written _ _ _ _ c.new-page.ensures c.as_slice.ensures.value c.in_ok-put_passed.ensures c.write_text.ensures
