use Rattle.nf_report_pages.proofs.Gathering.{gathered_written, gathered_refused}
use Rattle.nf_report_pages.proofs.curves.write_curve.Goals as goal

pub returns-in_err-put_curve : goal.returns-in_err-put_curve
returns-in_err-put_curve g c = gathered_refused _ _ _ _ c.new-page.ensures c.from_residual.ensures.0 c.in_err-put_curve.ensures

pub returns : goal.returns
returns g c = gathered_written _ _ _ _ c.new-page.ensures c.as_slice.ensures.value c.in_ok-put_curve.ensures c.write_text.ensures
