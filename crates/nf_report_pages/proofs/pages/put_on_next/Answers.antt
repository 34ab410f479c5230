use Rattle.std.proofs.Common.{◌∙◌}
use Rattle.nf_report_pages.proofs.Gathering.{put_on_next, put_behind, page_refused}
use Rattle.nf_report_pages.proofs.pages.put_on_next.Goals as goal

pub returns-in_err-write_page : goal.returns-in_err-write_page
returns-in_err-write_page g c = page_refused _ _ _ _ c.from_residual.ensures.0 c.in_err-write_page.ensures.empty c.in_err-write_page.ensures.wrote

pub returns-in-Ok : goal.returns-in-Ok
returns-in-Ok g c = put_on_next _ _ _ _ c.in_ok-write_page.ensures.empty c.in-Ok.ensures.ok c.in_ok-write_page.ensures.wrote

pub returns-in-Err : goal.returns-in-Err
returns-in-Err g c = put_behind _ _ _ _ (c.in-Err.ensures.err ∙ c.in_ok-write_page.ensures.empty) c.in_ok-write_page.ensures.wrote c.write_text.ensures
