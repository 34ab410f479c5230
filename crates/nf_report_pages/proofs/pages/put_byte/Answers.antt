use Rattle.nf_report_pages.proofs.Gathering.{put_there, same_start}
use Rattle.nf_report_pages.proofs.pages.put_byte.Goals as goal

pub returns-in-Ok : goal.returns-in-Ok
returns-in-Ok g c = put_there _ _ _ c.in-Ok.ensures.ok

pub returns-in-Err : goal.returns-in-Err
returns-in-Err g c = same_start _ _ c.in-Err.ensures.err c.put_on_next.ensures
