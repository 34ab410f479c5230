use Rattle.nf_report_pages.proofs.Gathering.{gathered_written, gathered_refused}
use Rattle.nf_report_pages.proofs.causes.write_stop.Goals as goal

pub returns-in_err-put_stop : goal.returns-in_err-put_stop
returns-in_err-put_stop g c = gathered_refused _ _ _ _ c.new-page.ensures c.from_residual.ensures.0 c.in_err-put_stop.ensures

pub returns : goal.returns
returns g c = gathered_written _ _ _ _ c.new-page.ensures c.as_slice.ensures.value c.in_ok-put_stop.ensures c.write_text.ensures
